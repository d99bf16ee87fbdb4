mod Settling
mod Declared
pub mod Modules
