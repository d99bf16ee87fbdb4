pub mod Images
pub mod Numbers
pub mod Faults
pub mod Made
pub mod Tasks
pub mod Planning
