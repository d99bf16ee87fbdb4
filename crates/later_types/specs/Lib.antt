pub mod Records
pub mod Later
