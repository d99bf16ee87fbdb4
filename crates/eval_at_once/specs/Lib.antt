pub mod Lists
pub mod Here
pub mod AtOnce
