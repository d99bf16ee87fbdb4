pub mod Bits
mod Needs
mod Linear
mod Bottom
pub mod Results
pub mod Cuts
pub mod Moved
