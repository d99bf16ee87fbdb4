pub mod Selected
pub mod Making
pub mod Carrying
