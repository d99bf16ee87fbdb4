pub mod Places
pub mod Held
pub mod Changes
pub mod First
