pub mod Walking
pub mod Parts
