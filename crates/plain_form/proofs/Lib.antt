pub mod Counts
pub mod Formats
pub mod Loop
pub mod ResultBounds
pub mod ResultFormats
pub mod Whole
