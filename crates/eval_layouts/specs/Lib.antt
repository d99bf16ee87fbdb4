pub mod Tables
pub mod Lays
pub mod First
