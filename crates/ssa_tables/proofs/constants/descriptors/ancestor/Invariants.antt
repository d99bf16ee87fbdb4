use Rattle.std.proofs.Common.{◌≡◌, suc}
use Rattle.ssa_lowered.specs.Constants.{ancestor, ancestor_within}
use Rattle.ssa_tables.proofs.constants.descriptors.ancestor.Given as goal

abbrev pub invariant-loop-level : goal.invariant-loop-level
invariant-loop-level l = ancestor_within l.types (suc l.left) l.level l.at ≡ ancestor l.types l.level l.r

abbrev pub decreases-loop-level : goal.decreases-loop-level
decreases-loop-level l = l.left
