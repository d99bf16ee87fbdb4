use Rattle.std.proofs.Common.{◌∙◌, sym}
use Rattle.ssa_lowered.specs.Data.{layout}
use Rattle.compiled_runs.proofs.Whole.{lowered_each}
use Rattle.program_image.proofs.imaging.program_image.Goals as goal

pub returns-in-Ok-clause-procedures : goal.returns-in-Ok-clause-procedures
returns-in-Ok-clause-procedures g c = let p = c.args.program in c.len.ensures ∙ sym (lowered_each p (layout p.types) 0 p.procedures)
