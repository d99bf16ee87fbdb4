pub mod Plain
pub mod Marks
pub mod Parts
