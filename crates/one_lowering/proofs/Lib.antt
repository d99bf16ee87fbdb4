pub mod Lists
pub mod Sizes
pub mod Entries
pub mod Parts
pub mod Middle
mod Masks
pub mod Suits
pub mod Sound
pub mod Expressions
mod Statements
pub mod Whole
mod Data
mod Procedures
pub mod Programs
mod Erased
pub mod Uses
pub mod InOrder
