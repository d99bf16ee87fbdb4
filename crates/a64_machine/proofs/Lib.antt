pub mod Storing
pub mod Texts
pub mod Making
pub mod Running
pub mod Registers
mod Starting
pub mod Steps
pub mod Regions
pub mod Numbers
pub mod Ways
pub mod Quiet
pub mod Sequences
mod Example
