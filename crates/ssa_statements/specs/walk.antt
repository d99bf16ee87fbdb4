pub mod Frames
pub mod Joins
pub mod Lists
pub mod Rungs
