pub mod Steps
pub mod Order
pub mod Entries
pub mod Writers
