pub mod Selecting
pub mod Partless
