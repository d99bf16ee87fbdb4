pub mod Numbers
pub mod SameShapes
pub mod OneShape
pub mod Agreements
mod Told
