pub mod Staying
pub mod Making
pub mod Parts
pub mod parameters
pub mod new_types
pub mod scopes
pub mod headings
