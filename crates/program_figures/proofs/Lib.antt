pub mod Counting
pub mod Figured
pub use Rattle.noted_image.proofs.words
