pub mod Jobs
pub mod Sources
pub mod Found
pub mod Replies
pub mod Batches
