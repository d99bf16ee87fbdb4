mod Lists
mod Scoped
mod Tree
mod Whole
mod Numbered
mod Blocks
mod Words
mod Once
mod Procedures
mod Suits
mod Fitting
mod FittingTree
mod Bounds
pub mod Narrow
mod Bodies
mod Costs
mod CostsTree
mod Sizes
pub mod Valid
pub mod Modest
mod Samples
pub mod Stepping
pub mod Safe
