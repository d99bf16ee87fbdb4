pub mod State
pub mod Services
pub mod Effects
pub mod Groups
pub mod Machine
pub mod View
pub mod Answers
