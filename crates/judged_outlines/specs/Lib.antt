pub mod Among
pub mod Upright
pub mod ends
