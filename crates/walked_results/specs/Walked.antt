-- When a walk by names accepts the result of an allocator.
use Rattle.std.specs.Prelude.{◌≡◌, ℕ, ◌<◌, List, [], length, get_or}
use Rattle.block_runs.specs.Blocks.{CodeBlock, block_at}
use Rattle.lir_core.specs.declared.flow.Flow.{Flow}
use Rattle.lir_core.specs.declared.flow.Trace.{Trace}
use Rattle.lir_core.specs.declared.places.Places.{Places}
use Rattle.lir_core.specs.declared.places.Line.{Line}
use Rattle.lir_core.specs.declared.places.TraceOut.{TraceOut}
use Rattle.lir_core.specs.Flows.{code_nodes}
use Rattle.lir_core.specs.Spots.{IsRising, IsRow}
use Rattle.lir_core.specs.Lines.{end_reads, Room}
use Rattle.lir_core.specs.Walks.{Walks}
use Rattle.lir_core.specs.Sound.{IsStart, IsEnd, no_places, room_of}

-- a node's part of a result: rows, what its start and end places have, and a walk through its lines from the one to the other
pub record IsWalkedNode (room : Room) (bls : List CodeBlock) (n : ℕ) (start : Places) (lines : List Line) (named : List ℕ) (end : Places) : Type 0 where
  pub row : IsRow room.regs start × IsRow room.regs end
  pub rises : IsRising start.homed
  pub starts : IsStart bls n start
  pub ends : IsEnd bls n end
  pub walks : Walks room (block_at bls n).ops (end_reads (block_at bls n).end) start lines named end

-- a result for a trace has an entry of each list for each node of it, and the walk accepts each node's part
pub record IsWalked (k : ℕ) (f : Flow) (t : Trace) (o : TraceOut) : Type 0 where
  pub counts : (length o.starts ≡ length t.nodes) × (length o.ends ≡ length t.nodes) × (length o.lines ≡ length t.nodes) × (length o.regs ≡ length t.nodes)
  pub nodes : (i : ℕ) → i < length t.nodes
      → IsWalkedNode (room_of k f) (code_nodes f.nodes) (get_or t.nodes i 0) (get_or o.starts i no_places) (get_or o.lines i []) (get_or o.regs i []) (get_or o.ends i no_places)
