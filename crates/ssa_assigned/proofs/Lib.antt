pub mod Noting
pub mod Rows
pub mod Kept
pub mod Suffixes
