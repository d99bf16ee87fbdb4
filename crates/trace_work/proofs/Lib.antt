pub mod Seated
pub mod Hinted
pub mod Entered
pub mod Ready
pub mod Made
pub mod Lending
