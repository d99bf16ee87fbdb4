pub use Rattle.source_image.proofs.compiled_runs
pub use Rattle.source_image.proofs.link_plan
pub use Rattle.source_image.proofs.program_image
