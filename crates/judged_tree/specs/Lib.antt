pub mod TypeShapes
pub mod Plain
pub mod Outline
pub mod Tables
