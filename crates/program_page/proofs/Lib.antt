pub mod Told
pub use Rattle.shown_program.proofs.words
