pub mod Sums
pub mod Tree
pub mod Events
pub mod Rule
pub mod Runs
pub mod Fits
pub mod Chains
pub mod Machine
