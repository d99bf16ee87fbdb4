pub mod Constants
pub mod Onward
pub mod Standard
pub mod Names
pub mod Types
pub mod Modules
