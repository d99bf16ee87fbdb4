pub mod Stacks
pub mod Tasks
pub mod Weights
pub mod Framed
