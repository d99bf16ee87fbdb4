pub mod Stages
pub mod Behind
pub mod parts
pub mod standard
