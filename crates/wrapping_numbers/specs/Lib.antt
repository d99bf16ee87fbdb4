pub mod Numbers
pub mod Shifts
pub mod Division
pub mod Sets
