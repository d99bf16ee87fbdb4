mod Lists
mod Alike
mod Behind
mod Modules
mod Whole
pub mod One
mod Linked
