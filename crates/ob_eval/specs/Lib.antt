pub mod Steps
pub mod Calling
pub mod Parts
pub mod Limits
pub mod Evaluated
pub mod Starting
