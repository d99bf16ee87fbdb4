pub mod Traces
pub mod Ranks
pub mod Cuts
pub mod Parents
