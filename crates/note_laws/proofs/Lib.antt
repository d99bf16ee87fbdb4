pub mod Own
pub mod Plans
pub mod Refused
pub use Rattle.noted_image.proofs.planned_image
pub use Rattle.noted_image.proofs.words
