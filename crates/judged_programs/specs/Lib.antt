pub mod Complete
pub mod LegalTable
pub mod ProgramOf
pub mod Ranked
pub mod Tidy
pub mod TidyModules
