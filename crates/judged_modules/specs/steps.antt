pub mod Procedures
pub mod Steps
pub mod Frames
