pub mod Operands
pub mod Shapes
pub mod Texts
pub mod Words
