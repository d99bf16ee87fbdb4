pub mod Labels
pub mod Selecting
