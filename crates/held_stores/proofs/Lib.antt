pub mod Pieces
pub mod Stores
pub mod Calls
pub mod Allocation
pub mod Copies
pub mod Rooms
pub mod Texts
pub mod Starting
