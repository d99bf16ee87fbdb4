pub mod Finding
pub mod Importing
pub mod Ends
