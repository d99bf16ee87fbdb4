pub mod Blank
pub mod InTurn
pub mod Building
pub mod Built
pub mod Scopes
pub mod Naming
pub mod Numbers
