pub mod Differing
pub mod Rules
pub mod Spelling
