pub mod PutOff
pub mod Settled
pub mod Strings
pub mod Waits
pub mod Walked
