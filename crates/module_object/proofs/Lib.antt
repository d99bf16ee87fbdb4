pub mod Behind
pub use Rattle.planned_image.proofs as planned_image
pub use Rattle.planned_image.proofs.words
