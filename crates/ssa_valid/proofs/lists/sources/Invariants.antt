use Rattle.std.proofs.Common.{◌≡◌, drop}
use Rattle.ssa_core.specs.Procedures.{code_blocks}
use Rattle.ssa_valid.specs.Tables.{noted_from, block_leads}
use Rattle.ssa_valid.proofs.lists.sources.Given as goal

abbrev pub invariant-loop-number : goal.invariant-loop-number
invariant-loop-number l = noted_from block_leads l.number (code_blocks (drop l.number l.blocks)) l.lists ≡ noted_from block_leads 0 (code_blocks l.blocks) l.initial.lists
