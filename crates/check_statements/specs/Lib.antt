pub mod Standing
pub mod assignments
pub mod ranges
pub mod cases
pub mod deeds
pub mod trees
pub mod syntax
pub mod steps
