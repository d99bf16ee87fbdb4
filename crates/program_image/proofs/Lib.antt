pub mod Ready
pub mod Fitting
pub mod Running
pub mod Telling
mod Counting
pub mod Tasks
pub mod Planned
pub use Rattle.link_plan.proofs as link_plan
pub mod Sharing
