pub mod Tickets
pub mod Rule
pub mod Desks
pub mod Puts
pub mod Submitters
pub mod Answered
pub mod Served
