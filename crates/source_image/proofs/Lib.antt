pub use Rattle.compiled_runs.proofs as compiled_runs
pub use Rattle.program_image.proofs.link_plan
pub use Rattle.program_image.proofs as program_image
