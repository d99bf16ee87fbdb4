pub mod Operands
pub mod Comparisons
pub mod Branches
pub mod Constants
pub mod Bounds
