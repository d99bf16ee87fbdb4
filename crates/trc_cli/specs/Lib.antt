pub mod Commands
pub mod Lines
pub mod Did
pub mod Laws
