pub mod Making
pub mod Values
pub mod Blocks
pub mod Trees
pub mod Procedures
pub mod Starts
