pub mod Cuts
pub mod Taken
pub mod Results
pub use Rattle.audited_allocations.proofs as audited_allocations
