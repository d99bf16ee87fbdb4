pub mod Parts
pub mod Ended
pub mod programs
pub mod importing
