use Rattle.std.proofs.Common.{◌≡◌, drop, replicate}
use Rattle.ssa_core.specs.Procedures.{code_blocks}
use Rattle.ssa_valid.specs.Tables.{makers_from}
use Rattle.ssa_valid.proofs.makers.makers.Given as goal

abbrev pub invariant-loop-number : goal.invariant-loop-number
invariant-loop-number l = makers_from l.number (code_blocks (drop l.number l.blocks)) l.makers.items ≡ makers_from 0 (code_blocks l.blocks) (replicate l.values 0)
