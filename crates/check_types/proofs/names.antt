pub mod Innermost
pub mod Outward
