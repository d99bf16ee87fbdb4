pub mod Registers
pub mod Homed
pub mod Lines
pub mod Steps
pub mod Walked
