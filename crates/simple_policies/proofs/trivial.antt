pub mod Steps
pub mod Sounds
