pub mod Allocations
pub mod Sharing
pub mod Numbered
