use Rattle.ssa_tables.proofs.Measuring.{measured}
use Rattle.ssa_tables.proofs.laws.well_formed_is_measured.Goals as goal

pub returns : goal.returns
returns c = measured
