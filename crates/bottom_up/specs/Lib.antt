pub mod Policy
pub mod Ends
pub mod Bottom
