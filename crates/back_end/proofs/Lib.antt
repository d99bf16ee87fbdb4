pub mod Ready
pub mod Reading
pub mod Planning
pub mod Naming
