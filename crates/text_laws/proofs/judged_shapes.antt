mod Closed
mod Types
mod Declared
mod Modules
pub mod Programs
mod OneForm
