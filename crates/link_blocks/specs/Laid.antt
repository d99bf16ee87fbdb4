-- Blocks by number while a procedure's lines are read, and what a plan is made of.
use Rattle.std.specs.Prelude.{◌≡◌, ◌≢◌, ℕ, ◌<◌, ◌≤◌, List, [], ◌∷◌, ◌++◌, map, length, get_or, flat_map, true, drop}
use Rattle.block_runs.specs.Live.{has}
use Rattle.lir_core.specs.Flows.{code_node, node_at}
use Rattle.lir_core.specs.declared.flow.Flow.{Flow}
use Rattle.lir_core.specs.declared.flow.Node.{Node}
use Rattle.lir_core.specs.declared.places.TraceOut.{TraceOut}
use Rattle.trace_build.specs.Cuts.{lists_of, all_nodes, AllTraces}
use Rattle.boundary_resolve.specs.declared.code_line.CodeLine.{CodeLine}
use Rattle.boundary_resolve.specs.Placing.{placed_of, node_lines, registers_at}
use Rattle.boundary_resolve.specs.Edges.{AreSound}
use Rattle.placed_code.specs.Placed.{no_block}
use Rattle.placed_code.specs.Placed as place
use Rattle.placed_code.specs.Words.{slots_of}
use Rattle.size_limits.specs.Limits.{most_slots}
use Rattle.placed_code.specs.Results.{placed, placed_block}
use Rattle.linked_flows.specs.Allocations.{Cut, steps_of, part_at, allocated}
use Rattle.link_blocks.specs.Fits.{numbers_fit, registers_fit}
use Rattle.link_blocks.specs.Plans.{block_in, plain_block}
use Rattle.link_blocks.specs.declared.planning.Laid.{Laid}

-- a procedure's lines are those that its cut gives, for sound results over k registers
pub record IsCutOf (k : ℕ) (f : Flow) (lines : List CodeLine) (outs : List TraceOut) (c : Cut) : Type 0 where
  pub flow_is : f ≡ c.flow
  pub outs_are : outs ≡ c.outs
  pub lines_are : lines ≡ placed_of c.flow c.traces c.outs
  pub sound : AreSound k c.flow c.traces c.outs
  pub paths : AllTraces c.flow (lists_of c.traces)

-- its numbers and registers fit instructions, and so do its frame and its local data
pub record Fits (c : Cut) : Type 0 where
  pub numbers : numbers_fit c.flow ≡ true
  pub registers : registers_fit c.outs ≡ true
  pub local_bytes : c.flow.local_bytes < 16777216
  pub slots : slots_of (placed steps_of (allocated c)) ≤ most_slots
  pub nodes : length c.flow.nodes < 4294967296

-- the block of a number
abbrev pub block_at : Laid → ℕ → place.Block
block_at laid n = get_or (map block_in laid.blocks.items) n no_block

-- behind one more node
pub record Lays (before after : Laid) (n : ℕ) (bl : place.Block) : Type 0 where
  pub order : after.order.items ≡ before.order.items ++ n ∷ []
  pub each : length after.blocks.items ≡ length before.blocks.items
  pub here : n < length before.blocks.items → block_at after n ≡ bl
  pub others : (m : ℕ) → m ≢ n → block_at after m ≡ block_at before m

-- the block of a node, without what has no words
abbrev pub wanted : Cut → ℕ → place.Block
wanted c n = plain_block (placed_block steps_of (code_node (node_at c.flow.nodes n)) (part_at c n))

-- the blocks of all nodes that were read are there
pub record AreLaid (c : Cut) (laid : Laid) : Type 0 where
  pub each : length laid.blocks.items ≡ length c.flow.nodes
  pub blocks : (m : ℕ) → has laid.order.items m ≡ true → block_at laid m ≡ wanted c m

-- the lines of some nodes are ahead, with the registers named for them
pub record AreAhead (c : Cut) (ns : List ℕ) (rows : List (List ℕ)) (ahead tail : List CodeLine) : Type 0 where
  pub each : length ns ≡ length rows
  pub named : (i : ℕ) → i < length ns → get_or rows i [] ≡ registers_at c.traces c.outs (get_or ns i 0)
  pub below : (i : ℕ) → i < length ns → get_or ns i 0 < length c.flow.nodes
  pub lines : ahead ≡ flat_map (node_lines c.flow c.traces c.outs) ns ++ tail

-- behind these nodes' lines
pub record HasRead (c : Cut) (ns : List ℕ) (before after : Laid) (ahead tail : List CodeLine) : Type 0 where
  pub lines : ahead ≡ tail
  pub order : after.order.items ≡ before.order.items ++ ns
  pub laid : AreLaid c after

-- the nodes of the first so many traces were read, and the lines of the others are ahead
pub record Reads (c : Cut) (t : ℕ) (laid : Laid) (ahead : List CodeLine) : Type 0 where
  pub lines : ahead ≡ flat_map (node_lines c.flow c.traces c.outs) (all_nodes (lists_of (drop t c.traces)))
  pub order : laid.order.items ++ all_nodes (lists_of (drop t c.traces)) ≡ all_nodes (lists_of c.traces)
  pub laid_is : AreLaid c laid
