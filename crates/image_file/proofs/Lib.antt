pub mod Kept
pub mod Layouts
pub mod Numbers
pub mod Places
pub mod Versions
pub mod Whole
pub mod Written
