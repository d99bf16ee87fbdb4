pub mod Pages
pub mod Faults
pub use Rattle.shown_program.specs.kept_plans
pub use Rattle.shown_program.specs as shown_program
pub use Rattle.whole_page.specs as whole_page
pub use Rattle.shown_program.specs.words
