pub mod Stands
pub mod Listed
pub mod Headings
pub mod Names
