pub use Rattle.text_laws.specs.alloc_choice
pub use Rattle.text_laws.specs.back_end
pub use Rattle.text_laws.specs.compiled_runs
pub use Rattle.text_laws.specs.flow_allocation
pub use Rattle.text_laws.specs.link_plan
pub use Rattle.text_laws.specs.program_image
pub use Rattle.text_laws.specs.source_image
pub use Rattle.text_laws.specs.source_program
pub use Rattle.text_laws.specs as text_laws
