pub mod Flat
pub mod Counted
pub mod Seats
pub mod Nodes
pub mod Along
pub mod Made
pub mod Outs
