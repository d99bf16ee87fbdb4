pub mod Images
pub mod Limits
pub mod Faults
pub mod Sizes
pub mod Tasks
pub use Rattle.back_end.specs as back_end
pub use Rattle.flow_allocation.specs as flow_allocation
pub use Rattle.link_plan.specs as link_plan
