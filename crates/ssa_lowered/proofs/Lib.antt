pub mod Everywhere
pub mod Linear
pub mod Grows
pub mod Stays
pub mod Stands
pub mod Layouts
mod Told
