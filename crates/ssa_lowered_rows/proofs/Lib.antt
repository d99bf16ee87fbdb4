pub mod Samples
pub mod More
pub mod Low
pub mod Cells
pub mod Limited
