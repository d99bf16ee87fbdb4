pub mod Related
pub mod Adds
pub mod Fuel
pub mod Longer
