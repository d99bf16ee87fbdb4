pub mod Entries
pub mod Sound
pub mod Growing
pub mod Index
pub mod Cells
pub mod Elements
pub mod Contents
pub mod Builder
