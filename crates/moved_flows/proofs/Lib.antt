pub mod Ends
pub mod Selecting
pub mod Starts
