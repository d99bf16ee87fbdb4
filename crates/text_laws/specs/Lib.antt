pub mod constants
pub mod no_faults
pub use Rattle.source_image.specs.alloc_choice
pub use Rattle.source_image.specs.back_end
pub use Rattle.source_image.specs.compiled_runs
pub use Rattle.source_image.specs.flow_allocation
pub use Rattle.source_image.specs.link_plan
pub use Rattle.source_image.specs.program_image
pub use Rattle.source_image.specs as source_image
pub use Rattle.source_image.specs.source_program
