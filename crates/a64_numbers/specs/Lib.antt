pub mod Operands
pub mod Branches
pub mod Conditions
pub mod Moves
