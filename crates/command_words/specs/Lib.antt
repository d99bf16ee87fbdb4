pub mod Commands
pub mod Taking
