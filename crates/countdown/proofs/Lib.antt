pub mod SpotsKeepUp
pub mod WordsInStep
pub mod WordsMade
