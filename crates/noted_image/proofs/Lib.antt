pub mod Linked
pub mod Told
pub mod Written
pub use Rattle.planned_image.proofs.placed_image
pub use Rattle.planned_image.proofs as planned_image
pub use Rattle.planned_image.proofs.procedure_code
pub use Rattle.planned_image.proofs.words
