pub mod Plans
pub mod Audits
pub mod Faults
pub use Rattle.placed_image.specs.audited_allocations
pub use Rattle.placed_image.specs as placed_image
pub use Rattle.placed_image.specs.trace_work
pub use Rattle.image_words.specs as words
