mod Bytes
mod Gaps
mod Longest
mod Places
mod Turns
mod Words
pub mod Once
pub mod Order
pub mod Every
