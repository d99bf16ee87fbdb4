pub mod Basics
pub mod Before
pub mod Entries
pub mod Meaning
pub mod Worlds
