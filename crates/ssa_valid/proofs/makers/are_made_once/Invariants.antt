use Rattle.std.proofs.Common.{◌≡◌, drop, replicate}
use Rattle.block_runs.specs.Valid.{made}
use Rattle.ssa_core.specs.Procedures.{code_blocks}
use Rattle.ssa_valid.specs.Tables.{tallied}
use Rattle.ssa_valid.proofs.makers.are_made_once.Given as goal

abbrev pub invariant-loop-block : goal.invariant-loop-block
invariant-loop-block l = tallied (made (code_blocks (drop l.block-index l.blocks))) l.counts.items ≡ tallied (made (code_blocks l.blocks)) (replicate l.values 0)
