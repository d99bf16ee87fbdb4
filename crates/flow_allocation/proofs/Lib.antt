pub mod Counting
pub mod Taking
pub mod Further
pub mod Numbered
