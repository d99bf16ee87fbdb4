pub mod Destinations
pub mod Holdings
pub mod Moving
pub mod Nodes
pub mod Parts
pub mod Results
pub mod Tests
pub mod Verdicts
