pub mod Legal
pub mod Keeping
pub mod Judged
