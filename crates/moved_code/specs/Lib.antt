pub mod Code
pub mod Procedures
