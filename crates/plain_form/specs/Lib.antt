pub mod Formats
pub mod Reading
pub mod Spelling
pub mod results
