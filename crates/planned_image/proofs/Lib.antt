pub mod Plans
pub mod Own
pub mod Placed
pub mod Refused
pub use Rattle.placed_image.proofs.audited_allocations
pub use Rattle.placed_image.proofs as placed_image
pub use Rattle.procedure_code.proofs as procedure_code
pub use Rattle.image_words.proofs as words
