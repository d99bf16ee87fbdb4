pub mod Assigned
pub mod Numbers
pub mod Registers
