pub mod Signing
pub mod Heads
