pub mod Told
pub use Rattle.noted_image.proofs.procedure_code
pub use Rattle.noted_image.proofs.words
