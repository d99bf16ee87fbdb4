pub mod Wrapping
pub mod Amounts
pub mod Bounds
pub mod Division
pub mod Elements
