pub mod InTable
pub mod Low
pub mod Longer
pub mod Running
pub mod Cuts
pub mod Forms
