use Rattle.ssa_tables.proofs.Measuring.{measured}
use Rattle.pass_times.proofs.passes.lowered.Goals as goal

pub lower_with_tables-requires : goal.lower_with_tables-requires
lower_with_tables-requires c = measured c.args.program.now c.requires
