pub mod Parts
pub mod Consts
pub mod Vars
pub mod Names
pub mod StringPlaces
