pub mod Tables
pub mod Words
pub mod Scans
pub mod Steps
