pub mod Holes
pub mod Views
pub mod Parts
pub mod Measured
pub mod Joined
