use Rattle.ssa_lowered.proofs.Layouts.{cells_by_trees, packed_by_trees}
use Rattle.ssa_lowered.proofs.laws.layouts_are_by_trees.Goals as goal

pub returns-clause-cells : goal.returns-clause-cells
returns-clause-cells c = cells_by_trees

pub returns-clause-packed : goal.returns-clause-packed
returns-clause-packed c = packed_by_trees
