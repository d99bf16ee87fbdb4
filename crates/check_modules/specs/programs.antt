pub mod Entities
pub mod Modules
