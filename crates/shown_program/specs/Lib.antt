pub mod Shown
pub use Rattle.kept_plans.specs as kept_plans
pub use Rattle.noted_image.specs.words
