pub mod Fitting
pub mod Lows
pub mod Lives
pub mod Frames
