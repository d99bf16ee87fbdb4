mod Digits
pub mod Fitting
