pub mod Parts
pub mod UnderWay
pub mod Completing
pub mod Open
pub mod numbers
pub mod lines
