pub mod Lengths
pub mod Records
pub mod TypeSyntax
pub mod Forward
