pub mod Stamping
pub mod Tables
pub mod Reading
pub mod Exploring
pub mod Ordered
pub mod Formed
pub mod Whole
