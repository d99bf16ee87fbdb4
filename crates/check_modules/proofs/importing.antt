pub mod Found
pub mod KnownAs
pub mod LastNames
pub mod ImportSteps
