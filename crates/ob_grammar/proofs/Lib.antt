mod Vocabulary
mod Sets
mod LookAhead
mod Shapes
mod Pending
pub mod OneTree
mod Witnesses
pub mod Viable
pub mod Answers
