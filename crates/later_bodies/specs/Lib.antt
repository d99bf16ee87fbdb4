pub mod Waiting
pub mod Ended
pub mod Beside
pub mod Walked
