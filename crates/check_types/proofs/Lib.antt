pub mod SameShapes
pub mod Rounds
pub mod Copies
