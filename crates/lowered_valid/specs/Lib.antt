pub mod Claims
pub mod TreeSizes
pub mod Modest
pub mod Contents
