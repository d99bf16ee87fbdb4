pub mod Tabling
pub mod Measuring
