pub mod Forms
pub mod Setting
pub mod Typing
pub mod Standing
pub mod Gives
pub mod OfProgram
pub mod Answers
