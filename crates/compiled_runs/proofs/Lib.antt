pub mod Places
pub mod Telling
pub mod Traps
pub mod Whole
