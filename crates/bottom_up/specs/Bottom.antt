-- Bottom-up allocation of a trace.
use Rattle.std.specs.Prelude.{ℕ, ◌+◌, List, [], ◌∷◌, ◌++◌, filter, Option, Some, None, slice_get}
use Rattle.block_runs.specs.Live.{has, block_makes}
use Rattle.lir_core.specs.declared.flow.Node.{Node}
use Rattle.lir_core.specs.declared.places.TraceOut.{TraceOut}
use Rattle.lir_core.specs.Flows.{code_node}
use Rattle.lir_core.specs.Lines.{end_reads}
use Rattle.lir_core.specs.Rows.{live_into}
use Rattle.trace_needs.specs.Needs.{first_of, positions_of, last_mention}
use Rattle.loc_back.specs.declared.backward.Backward.{Backward}
use Rattle.loc_back.specs.Steps.{started, closed, in_part, before_node}
use Rattle.linear_scan.specs.Linear.{Case, params_of, end_position, position_behind}
use Rattle.bottom_up.specs.Policy.{take_all, operate_all}
use Rattle.bottom_up.specs.Ends.{given_at, homed_at}

---- The values that are homed first

abbrev pub made_by : Option Node → List ℕ
made_by None = []
made_by (Some node) = block_makes (code_node node)

-- all values that some nodes make, as parameters or by operations
abbrev pub made_along : List Node → List ℕ → List ℕ
made_along nodes [] = []
made_along nodes (n ∷ ns) = made_by (slice_get nodes n) ++ made_along nodes ns

abbrev pub live_first : Case → List ℕ → List ℕ
live_first x [] = []
live_first x (n ∷ ns) = live_into x.flow.values x.rows n

-- those that are live into the head and made in the trace
abbrev pub homed_first : Case → List ℕ → List ℕ
homed_first x ns = filter (has (made_along x.flow.nodes ns)) (live_first x ns)

---- The trace

abbrev pub next_params : Case → Option ℕ → List ℕ
next_params x None = []
next_params x (Some m) = params_of (slice_get x.flow.nodes m)

-- the end of a node, from the start of the trace's next node, if there is one
abbrev pub to_end : Case → Node → Option ℕ → Backward → Backward
to_end x node next b = before_node (next_params x next) node.end (given_at next (next_params x next) b.part.regs node.end) (homed_at x.flow.values x.rows next (next_params x next) b.part.regs node.end) b

module _ (x : Case) (mention : ℕ → ℕ → Option ℕ) where
  -- a node, whose start is position p, from its end to its start; one that isn't there is passed over
  abbrev pub before_it : ℕ → Option Node → Option ℕ → Backward → Backward
  before_it p None next b = b
  before_it p (Some node) next b = in_part (operate_all mention (p + 1) 0 node.lirs) (in_part (take_all mention (end_position p node) (end_reads node.end) (end_reads node.end)) (to_end x node next b))

  -- the nodes of a trace, from the last to the first
  abbrev pub along : ℕ → List ℕ → Backward → Backward
  along p [] b = b
  along p (n ∷ ns) b = before_it p (slice_get x.flow.nodes n) (first_of ns) (along (position_behind p (slice_get x.flow.nodes n)) ns b)

  abbrev pub walked_back : List ℕ → Backward
  walked_back ns = closed x.flow x.rows ns (along 0 ns (started (homed_first x ns) x.regs))

-- the position behind some nodes, the first of which starts at position p
abbrev pub behind_nodes : List Node → ℕ → List ℕ → ℕ
behind_nodes nodes p [] = p
behind_nodes nodes p (n ∷ ns) = behind_nodes nodes (position_behind p (slice_get nodes n)) ns

abbrev pub result_of : ℕ → Backward → TraceOut
result_of number b = record { trace = number; starts = b.starts; ends = b.ends; lines = b.lines; regs = b.regs }

-- the last mentions in a trace
abbrev pub mention_in : Case → List ℕ → ℕ → ℕ → Option ℕ
mention_in x ns v p = last_mention (positions_of x.flow x.rows ns) v p

-- bottom-up allocation of a trace of a number
abbrev pub bottom_up : Case → ℕ → List ℕ → TraceOut
bottom_up x number ns = result_of number (walked_back x (mention_in x ns) ns)
