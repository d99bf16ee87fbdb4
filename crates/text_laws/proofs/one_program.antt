pub mod Reading
mod InTurn
pub mod OneProgram
