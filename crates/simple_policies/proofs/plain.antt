pub mod Marking
pub mod Walked
pub mod Fitting
pub mod Sounds
