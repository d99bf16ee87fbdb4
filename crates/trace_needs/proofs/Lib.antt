pub mod Alike
pub mod Halving
pub mod Joining
pub mod Search
pub mod Whole
