-- Results that a walk by names accepts are sound.
use Rattle.std.proofs.Common.{ℕ, List}
use Rattle.block_runs.specs.Blocks.{CodeBlock, block_at}
use Rattle.lir_core.specs.declared.flow.Flow.{Flow}
use Rattle.lir_core.specs.declared.flow.Trace.{Trace}
use Rattle.lir_core.specs.declared.places.Places.{Places}
use Rattle.lir_core.specs.declared.places.Line.{Line}
use Rattle.lir_core.specs.declared.places.TraceOut.{TraceOut}
use Rattle.lir_core.specs.Lines.{end_reads, Room}
use Rattle.lir_core.specs.Sound.{IsSoundNode, IsSound}
use Rattle.lir_core.proofs.Walking.{walked}
use Rattle.walked_results.specs.Walked.{IsWalkedNode, IsWalked}

pub node_sound : (room : Room) (bls : List CodeBlock) (n : ℕ) (start : Places) (lines : List Line) (named : List ℕ) (end : Places) → IsWalkedNode room bls n start lines named end → IsSoundNode room bls n start lines named end
node_sound room bls n start lines named end w = record {
  row = w.row;
  rises = w.rises;
  starts = w.starts;
  ends = w.ends;
  lines_sound = walked room (block_at bls n).ops (end_reads (block_at bls n).end) start lines named end w.walks;
}

pub result_sound : (k : ℕ) (f : Flow) (t : Trace) (o : TraceOut) → IsWalked k f t o → IsSound k f t o
result_sound k f t o w = record { counts = w.counts; nodes = λ i l. node_sound _ _ _ _ _ _ _ (w.nodes i l) }
