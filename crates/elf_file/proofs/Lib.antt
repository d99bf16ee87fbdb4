pub mod Hanging
pub mod Others
pub mod Parts
pub mod Ranges
pub mod Tabled
pub mod TrapWords
