pub mod Counts
pub mod Files
pub mod Source
pub mod Sink
