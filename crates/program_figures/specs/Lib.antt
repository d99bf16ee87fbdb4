pub mod Lines
pub mod Images
pub mod Runs
pub mod Steps
pub use Rattle.noted_image.specs.planned_image
pub use Rattle.noted_image.specs.words
