pub mod Slots
pub mod Plays
pub mod Sits
pub mod Ends
pub mod Opened
pub mod Draws
pub mod Seats
