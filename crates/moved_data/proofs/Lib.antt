pub mod Nodes
pub mod Living
pub mod Cuts
pub mod Needs
pub mod Linear
pub mod Bottom
pub mod Results
pub mod Alike
