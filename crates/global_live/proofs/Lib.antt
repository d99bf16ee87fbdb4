pub mod Lists
pub mod Bits
pub mod Paths
pub mod Tables
pub mod Steps
pub mod Loops
pub mod Filled
