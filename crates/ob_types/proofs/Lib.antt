pub mod Tests
pub mod Counting
pub mod Growing
mod Told
mod Depth
pub mod WellFormedParts
pub mod DataTrees
pub mod TreeBytes
