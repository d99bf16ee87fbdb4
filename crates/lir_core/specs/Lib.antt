pub mod Rows
pub mod Flows
pub mod Spots
pub mod Lines
pub mod Walks
pub mod Sound
