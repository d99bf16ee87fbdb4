use Rattle.std.proofs.Common.{◌≡◌, drop}
use Rattle.ssa_valid.specs.Tables.{tallied}
use Rattle.ssa_valid.proofs.makers.tally_block.Given as goal

abbrev pub invariant-loop-value : goal.invariant-loop-value
invariant-loop-value l = tallied (drop l.value-index l.block.params) l.counts.items ≡ tallied l.block.params l.initial.counts.items
