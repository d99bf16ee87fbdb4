pub mod Waits
pub mod Beside
pub mod BesideTypes
pub mod Lists
pub mod Alike
pub mod Frames
pub mod PutOff
pub mod Walked
