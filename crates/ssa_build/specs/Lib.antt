pub mod Makes
pub mod Blocks
pub mod Bodies
