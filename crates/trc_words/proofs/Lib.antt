mod Matching
mod Fitting
