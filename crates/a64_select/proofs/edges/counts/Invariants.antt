use Rattle.ssa_core.specs.Procedures.{code_blocks}
use Rattle.a64_select.proofs.Preds.{AreCounts}
use Rattle.a64_select.proofs.edges.counts.Given as goal

abbrev pub invariant-loop-block : goal.invariant-loop-block
invariant-loop-block l = AreCounts (code_blocks l.blocks) l.block-index l.counts.items
