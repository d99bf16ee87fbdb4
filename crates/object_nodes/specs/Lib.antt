pub mod Nodes
pub mod Named
pub mod Running
pub mod AtOnce
pub mod Addresses
