pub mod Notable
pub mod Passing
