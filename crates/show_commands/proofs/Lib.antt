mod Above
pub mod Once
pub mod Whole
