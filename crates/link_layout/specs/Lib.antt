pub mod Starts
pub mod Widths
pub mod Spots
