use Rattle.lowered_valid.proofs.Narrow.{cells_narrow, packed_narrow}
use Rattle.lowered_valid.proofs.laws.layouts_are_narrow.Goals as goal

pub returns-clause-cells : goal.returns-clause-cells
returns-clause-cells c = cells_narrow

pub returns-clause-packed : goal.returns-clause-packed
returns-clause-packed c = packed_narrow
