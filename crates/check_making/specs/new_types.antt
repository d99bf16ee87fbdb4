pub mod Arrays
pub mod Layouts
pub mod Fields
pub mod Records
pub mod Pointers
