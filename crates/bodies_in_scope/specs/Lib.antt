pub mod Below
pub mod Around
pub mod Standing
