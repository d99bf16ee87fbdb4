pub mod Numbering
pub mod Readings
