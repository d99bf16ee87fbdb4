pub mod Bytes
pub mod Chunks
pub mod Memory
pub mod Areas
pub mod Texts
