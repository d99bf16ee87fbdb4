pub mod Lowest
pub mod Passing
pub mod Views
pub mod Walking
