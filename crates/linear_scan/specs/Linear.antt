-- Linear scan over a trace.
use Rattle.std.specs.Prelude.{ℕ, ◌+◌, List, [], ◌∷◌, length, Option, Some, None, slice_get}
use Rattle.lir_core.specs.declared.flow.Node.{Node}
use Rattle.lir_core.specs.declared.flow.Flow.{Flow}
use Rattle.lir_core.specs.declared.places.Places.{Places}
use Rattle.lir_core.specs.declared.places.TraceOut.{TraceOut}
use Rattle.lir_core.specs.Lines.{end_reads}
use Rattle.lir_core.specs.Rows.{has_bit, live_into}
use Rattle.block_runs.specs.declared.end.End.{End}
use Rattle.trace_needs.specs.Needs.{first_of, positions_of, next_need}
use Rattle.loc_state.specs.declared.part.Part.{Part}
use Rattle.loc_state.specs.declared.forward.Forward.{Forward}
use Rattle.loc_state.specs.Steps.{places, started, closed, in_part}
use Rattle.linear_scan.specs.Policy.{from, drop_dead, bring_all, operate_all}
use Rattle.linear_scan.specs.Starts.{arguments_of, start_behind, start_afresh}

abbrev pub params_of : Option Node → List ℕ
params_of None = []
params_of (Some node) = node.params

abbrev pub end_of : Option Node → List ℕ
end_of None = []
end_of (Some node) = arguments_of node.end

-- a trace: its flow, the rows of what is live, how many registers there are
pub record Case : Type 0 where
  pub flow : Flow
  pub rows : List (List ℕ)
  pub regs : ℕ

-- a hint: the node behind which places stand, and the places
pub record Hint : Type 0 where
  pub node : ℕ
  pub places : Places

abbrev pub result_of : ℕ → Forward → TraceOut
result_of number f = record { trace = number; starts = f.starts; ends = f.ends; lines = f.lines; regs = f.regs }

-- the position of a node's end, and of what is behind it
abbrev pub end_position : ℕ → Node → ℕ
end_position p node = p + 1 + length node.lirs

abbrev pub position_behind : ℕ → Option Node → ℕ
position_behind p None = p
position_behind p (Some node) = end_position p node + 1

module _ (x : Case) (need : ℕ → ℕ → Option ℕ) where
  -- where the trace's first node starts
  abbrev pub first_start : ℕ → Option Hint → Places
  first_start n None = start_afresh (from need 0) x.regs (live_into x.flow.values x.rows n) (params_of (slice_get x.flow.nodes n))
  first_start n (Some h) = start_behind (from need 0) (has_bit x.rows n) (params_of (slice_get x.flow.nodes n)) (end_of (slice_get x.flow.nodes h.node)) h.places

  -- where the trace's next node starts, if there is one, whose start is position p
  abbrev pub next_start : ℕ → End → Places → Option ℕ → Option Places
  next_start p end q None = None
  next_start p end q (Some n) = Some (start_behind (from need p) (has_bit x.rows n) (params_of (slice_get x.flow.nodes n)) (arguments_of end) q)

  module _ (drops : ℕ → List ℕ → Part → Part) where
    -- a node, whose start is position p: its operations, then what its end uses
    abbrev pub in_node : ℕ → Node → Part → Part
    in_node p node t = bring_all need (end_position p node) (end_reads node.end) (end_reads node.end) (operate_all need drops (p + 1) 0 node.lirs t)

    -- behind a node, where the trace goes on with the next; one that isn't there is passed over
    abbrev pub behind : ℕ → Option Node → Option ℕ → Forward → Forward
    behind p None next f = f
    behind p (Some node) next f = closed (next_start (end_position p node + 1) node.end (places (in_node p node f.part)) next) (in_part (in_node p node) f)

    -- the nodes of a trace, one after the other
    abbrev pub along : ℕ → List ℕ → Forward → Forward
    along p [] f = f
    along p (n ∷ ns) f = along (position_behind p (slice_get x.flow.nodes n)) ns (behind p (slice_get x.flow.nodes n) (first_of ns) f)

    -- the result for a trace of a number, with a hint or with none
    abbrev pub result_by : ℕ → List ℕ → Option Hint → TraceOut
    result_by number [] hint = record { trace = number; starts = []; ends = []; lines = []; regs = [] }
    result_by number (n ∷ ns) hint = result_of number (along 0 (n ∷ ns) (started (first_start n hint)))

-- the needs of a trace
abbrev pub need_in : Case → List ℕ → ℕ → ℕ → Option ℕ
need_in x ns v p = next_need (positions_of x.flow x.rows ns) v p

-- linear scan: values without a need are dropped at each operation
abbrev pub linear : Case → ℕ → List ℕ → Option Hint → TraceOut
linear x number ns hint = result_by x (need_in x ns) (λ p vs t. drop_dead (need_in x ns) p t) number ns hint
