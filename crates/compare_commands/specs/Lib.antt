pub mod Choices
pub mod Rows
pub mod Lines
pub mod Tables
pub mod Compares
pub use Rattle.meaning_commands.specs as meaning_commands
