mod Shapes
mod Named
mod Below
mod Statements
mod Procedures
mod Numbered
pub mod Starts
