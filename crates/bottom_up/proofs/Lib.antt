pub mod Chosen
pub mod Covering
pub mod Steps
pub mod Sections
pub mod Along
pub mod Nodes
pub mod Traces
