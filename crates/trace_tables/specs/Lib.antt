pub mod Counts
pub mod Headings
pub mod Tables
