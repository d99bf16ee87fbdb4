pub mod Formats
pub mod Objects
