pub mod Expressions
pub mod Statements
pub mod Calls
pub mod Turned
pub mod Weighed
pub mod Framing
mod Ends
