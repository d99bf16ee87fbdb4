pub mod Final
pub mod Agrees
pub mod Sound
pub mod Made
pub mod Lines
pub mod Lists
pub mod steps
