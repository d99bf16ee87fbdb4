pub mod Marks
pub mod Names
pub mod Operations
pub mod Places
pub mod Registers
pub mod Cells
pub mod Rows
pub mod Told
