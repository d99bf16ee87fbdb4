use Rattle.std.proofs.Common.{◌≡◌, drop}
use Rattle.block_runs.specs.Valid.{block_reads}
use Rattle.ssa_core.specs.Procedures.{code_blocks}
use Rattle.ssa_valid.specs.Tables.{noted_from}
use Rattle.ssa_valid.proofs.lists.readers.Given as goal

abbrev pub invariant-loop-number : goal.invariant-loop-number
invariant-loop-number l = noted_from block_reads l.number (code_blocks (drop l.number l.blocks)) l.lists ≡ noted_from block_reads 0 (code_blocks l.blocks) l.initial.lists
