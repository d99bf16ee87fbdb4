pub mod Lists
pub mod Widths
pub mod Turns
pub mod Standing
mod Tidy
mod Apart
mod Below
