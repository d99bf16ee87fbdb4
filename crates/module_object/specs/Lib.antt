pub mod Objects
pub use Rattle.planned_image.specs.audited_allocations
pub use Rattle.planned_image.specs.placed_image
pub use Rattle.planned_image.specs as planned_image
pub use Rattle.planned_image.specs.words
