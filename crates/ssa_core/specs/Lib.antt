pub mod Procedures
pub mod Validity
