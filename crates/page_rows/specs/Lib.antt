pub mod Traffic
pub mod Headings
pub mod Rows
pub mod Sections
