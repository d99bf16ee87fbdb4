pub mod Judging
pub mod Values
mod Places
mod Selecting
mod Operating
mod Storing
mod Calling
pub mod Naming
pub mod Reading
pub mod Tree
mod Worlds
mod Selectors
mod Labels
mod Deeds
pub mod Statements
pub mod Entries
mod Forming
mod Designating
mod Images
mod Bodies
mod Outlines
pub mod Whole
pub mod FirstWorld
mod Folded
pub mod Constants
pub mod Spelled
