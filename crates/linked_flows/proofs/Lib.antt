pub mod Sequence
pub mod Ordering
pub mod Edges
pub mod Entry
pub mod Nodes
pub mod Run
pub mod Expected
