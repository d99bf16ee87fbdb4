pub mod Within
pub mod Starts
