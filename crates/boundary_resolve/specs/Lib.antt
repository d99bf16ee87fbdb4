pub mod Moves
pub mod Placing
pub mod Edges
pub mod Before
pub mod Seats
pub mod Codes
pub mod Found
