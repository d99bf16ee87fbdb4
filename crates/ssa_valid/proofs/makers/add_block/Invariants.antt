use Rattle.std.proofs.Common.{◌≡◌, drop}
use Rattle.ssa_valid.specs.Tables.{made_in}
use Rattle.ssa_valid.proofs.makers.add_block.Given as goal

abbrev pub invariant-loop-value : goal.invariant-loop-value
invariant-loop-value l = made_in l.number (drop l.value-index l.block.params) l.makers.items ≡ made_in l.number l.block.params l.initial.makers.items
