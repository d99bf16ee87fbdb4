pub mod Policy
pub mod Starts
pub mod Linear
pub mod Inputs
pub mod Made
