pub mod Calls
pub mod Schedule
pub mod Store
pub mod MemFiles
pub mod MemSource
pub mod MemSink
pub mod CleanFiles
pub mod Silent
