pub mod TypeMeaning
pub mod TableFacts
pub mod Fields
pub mod Known
pub mod steps
pub mod names
