pub mod WholeProgram
pub mod Entities
pub mod MadeModule
