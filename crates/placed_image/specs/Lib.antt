pub mod Cutting
pub mod Shares
pub mod Placing
pub use Rattle.audited_allocations.specs as audited_allocations
pub use Rattle.trace_work.specs as trace_work
