pub mod Texts
pub mod Faults
pub mod Behind
pub use Rattle.check_making.specs as check_making
