pub mod Placed
pub mod Words
pub mod Layout
pub mod Claims
pub mod Results
