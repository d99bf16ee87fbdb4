pub mod Lengths
pub mod Orders
pub mod Tabled
