pub mod Crossing
pub mod Between
pub mod Sought
pub mod Laid
pub mod Seated
pub mod Staying
