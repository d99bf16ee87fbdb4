pub mod Sources
pub mod Order
pub mod Excerpts
