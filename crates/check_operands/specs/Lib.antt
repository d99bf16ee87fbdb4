pub mod Operands
pub mod trees
pub mod operators
pub mod calls
pub mod symbols
