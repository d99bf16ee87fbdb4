pub mod Fits
pub mod Plans
pub mod Ahead
pub mod Laid
