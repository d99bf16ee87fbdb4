pub mod Order
pub mod Layout
pub mod Boxes
pub mod Standings
pub mod Paths
pub mod Texts
pub mod Drawings
