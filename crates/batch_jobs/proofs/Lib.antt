pub mod Reading
pub mod Cutting
pub mod Replying
pub mod Printing
pub mod Whole
pub mod Once
