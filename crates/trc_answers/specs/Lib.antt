pub mod Causes
pub mod Runs
pub mod Verdict
pub mod Answers
pub mod Reading
pub mod Places
pub mod Names
