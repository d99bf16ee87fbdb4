pub mod BodyStands
pub mod Imports
pub mod ByParts
pub mod Ends
pub mod Declared
pub mod Checked
pub mod WantOfMemory
pub mod Walked
