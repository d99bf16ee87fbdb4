pub mod Objects
pub use Rattle.module_object.specs as module_object
