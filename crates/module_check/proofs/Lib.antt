mod Fitting
mod Telling
pub mod Once
