mod Acts
pub mod Values
