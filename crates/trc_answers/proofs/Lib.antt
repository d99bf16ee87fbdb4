pub mod Answering
pub mod Hex
pub mod Lines
pub mod Texts
mod LastLines
