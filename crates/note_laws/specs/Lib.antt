pub use Rattle.noted_image.specs as noted_image
pub use Rattle.noted_image.specs.placed_image
pub use Rattle.noted_image.specs.planned_image
pub use Rattle.noted_image.specs.words
