pub mod Typed
pub mod OneName
pub mod Places
pub mod Known
pub mod Growing
pub mod First
pub mod Legal
