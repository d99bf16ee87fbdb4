pub mod Sequence
pub mod Listed
pub mod Table
pub mod Saving
pub mod Along
pub mod Linking
pub mod First
