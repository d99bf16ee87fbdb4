pub mod Native
pub mod Placed
pub mod Runtime
pub mod Spelling
