pub use Rattle.text_laws.proofs.compiled_runs
pub use Rattle.text_laws.proofs.link_plan
pub use Rattle.text_laws.proofs.program_image
pub use Rattle.text_laws.proofs as text_laws
