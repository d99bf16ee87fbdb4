pub mod Constants
pub mod Variables
pub mod type_parts
