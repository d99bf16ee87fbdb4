-- A program that texts are is well-formed, and so has the sizes that lowering asks for.
use Rattle.ssa_tables.proofs.Measuring.{measured}
use Rattle.module_vectors.proofs.lowering.procedure_lines.Goals as goal

pub lower-requires : goal.lower-requires
lower-requires c = measured c.in-Ok.program c.in-Ok.ensures.well_formed
