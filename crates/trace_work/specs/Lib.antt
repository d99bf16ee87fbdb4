pub mod Places
pub mod Lent
pub mod Plans
pub mod Entries
pub mod Finals
