pub mod Steps
pub mod Finish
pub mod Sharing
pub mod Ends
pub mod Stops
pub mod ChildHints
pub mod Gathered
