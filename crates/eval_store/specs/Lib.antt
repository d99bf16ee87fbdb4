pub mod Areas
pub mod Cells
pub mod Handing
pub mod Equality
pub mod Did
pub mod Copies
pub mod Characters
pub mod Tests
