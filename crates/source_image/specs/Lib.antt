pub mod Images
pub mod Refusals
pub use Rattle.alloc_choice.specs as alloc_choice
pub use Rattle.program_image.specs.back_end
pub use Rattle.compiled_runs.specs as compiled_runs
pub use Rattle.program_image.specs.flow_allocation
pub use Rattle.program_image.specs.link_plan
pub use Rattle.program_image.specs as program_image
pub use Rattle.source_program.specs as source_program
pub use Rattle.trace_report.specs as trace_report
pub use Rattle.source_program.specs.check_making
