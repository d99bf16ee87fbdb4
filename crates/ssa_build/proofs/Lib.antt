pub mod Makings
pub mod Entering
pub mod Placed
pub mod Whole
pub mod Limits
pub mod Procedures
pub mod Within
