pub mod Endings
pub mod Counting
pub mod Written
pub mod Spending
pub mod Copying
pub mod Guarding
pub mod Letters
