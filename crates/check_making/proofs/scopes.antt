pub mod Procedures
pub mod Levels
pub mod Scopes
pub mod Names
pub mod ByNumber
pub mod Together
