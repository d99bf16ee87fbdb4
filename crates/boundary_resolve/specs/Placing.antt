-- The code of a procedure in lines.
use Rattle.std.specs.Prelude.{ℕ, suc, ◌==◌, Bool, true, false, cond, List, [], ◌∷◌, ◌++◌, map, flat_map, length, Option, Some, None, slice_index_or}
use Rattle.block_runs.specs.declared.end.End.{End}
use Rattle.block_runs.specs.declared.end.End.TheVariants.{Jump, Branch, Nonzero, Return, Trap}
use Rattle.lir_core.specs.declared.flow.Flow.{Flow}
use Rattle.lir_core.specs.declared.flow.Trace.{Trace}
use Rattle.lir_core.specs.declared.places.Places.{Places}
use Rattle.lir_core.specs.declared.places.Line.{Line}
use Rattle.lir_core.specs.declared.places.TraceOut.{TraceOut}
use Rattle.lir_core.specs.Spots.{argument_of}
use Rattle.lir_core.specs.Sound.{no_places}
use Rattle.lir_core.specs.Flows.{node_at}
use Rattle.trace_build.specs.Cuts.{lists_of, all_nodes}
use Rattle.parallel_move.specs.declared.step.Step.{Step}
use Rattle.parallel_move.specs.Order.{order_of}
use Rattle.boundary_resolve.specs.declared.code_line.CodeLine.{CodeLine}
use Rattle.boundary_resolve.specs.declared.code_line.CodeLine.TheVariants.{Body, Edge, Leave}
use Rattle.boundary_resolve.specs.declared.code_line.CodeLine.TheVariants.{Node as Begins}
use Rattle.boundary_resolve.specs.declared.seats.Seat.{Seat}
use Rattle.boundary_resolve.specs.Moves.{edge_moves, entry_places, entry_argument}

---- Where nodes stand in traces

-- of a trace's nodes, where the first is the i-th of trace t
abbrev pub seats_in : ℕ → ℕ → List ℕ → List Seat
seats_in t i [] = []
seats_in t i (n ∷ ns) = record { node = n; trace = t; at = i } ∷ seats_in t (suc i) ns

-- of all nodes in code order, where the first trace is number t
abbrev pub seats_from : ℕ → List Trace → List Seat
seats_from t [] = []
seats_from t (trace ∷ traces) = seats_in t 0 trace.nodes ++ seats_from (suc t) traces

-- the first seat of a node
abbrev pub seat_of : List Seat → ℕ → Option Seat
seat_of [] n = None
seat_of (s ∷ ss) n = cond (s.node == n) (Some s) (seat_of ss n)

abbrev pub no_out : TraceOut
no_out = record { trace = 0; starts = []; ends = []; lines = []; regs = [] }

abbrev pub out_at : List TraceOut → ℕ → TraceOut
out_at outs t = slice_index_or outs t no_out

abbrev pub places_at : (TraceOut → List Places) → List TraceOut → Option Seat → Places
places_at which outs None = no_places
places_at which outs (Some s) = slice_index_or (which (out_at outs s.trace)) s.at no_places

abbrev pub lines_in : List TraceOut → Option Seat → List Line
lines_in outs None = []
lines_in outs (Some s) = slice_index_or (out_at outs s.trace).lines s.at []

-- the registers named for a node's operations and its end
abbrev pub registers_in : List TraceOut → Option Seat → List ℕ
registers_in outs None = []
registers_in outs (Some s) = slice_index_or (out_at outs s.trace).regs s.at []

abbrev pub seat_at : List Trace → ℕ → Option Seat
seat_at traces n = seat_of (seats_from 0 traces) n

-- a node's start places, end places, lines, and the registers that are named for it
abbrev pub start_at : List Trace → List TraceOut → ℕ → Places
start_at traces outs n = places_at (λ o. o.starts) outs (seat_at traces n)

abbrev pub end_at : List Trace → List TraceOut → ℕ → Places
end_at traces outs n = places_at (λ o. o.ends) outs (seat_at traces n)

abbrev pub lines_at : List Trace → List TraceOut → ℕ → List Line
lines_at traces outs n = lines_in outs (seat_at traces n)

abbrev pub registers_at : List Trace → List TraceOut → ℕ → List ℕ
registers_at traces outs n = registers_in outs (seat_at traces n)

---- Edges

-- an edge's steps, from node to node
abbrev pub steps_between : List Trace → List TraceOut → ℕ → ℕ → (ℕ → ℕ) → List Step
steps_between traces outs from to argument = order_of (edge_moves (end_at traces outs from) (start_at traces outs to) argument)

abbrev pub steps_of_end : Flow → List Trace → List TraceOut → ℕ → End → List Step
steps_of_end f traces outs n (Jump to args) = steps_between traces outs n to (argument_of (node_at f.nodes to).params args)
steps_of_end f traces outs n (Branch k a b one other) = []
steps_of_end f traces outs n (Nonzero a one other) = []
steps_of_end f traces outs n (Return a) = []
steps_of_end f traces outs n (Trap kind) = []

-- of the edge of a node's jump: they stand before its end
abbrev pub jump_steps : Flow → List Trace → List TraceOut → ℕ → List Step
jump_steps f traces outs n = steps_of_end f traces outs n (node_at f.nodes n).end

abbrev pub is_test : End → Bool
is_test (Jump to args) = false
is_test (Branch k a b one other) = true
is_test (Nonzero a one other) = true
is_test (Return a) = false
is_test (Trap kind) = false

abbrev pub steps_from : Flow → List Trace → List TraceOut → List ℕ → ℕ → List Step
steps_from f traces outs [] n = []
steps_from f traces outs (p ∷ ps) n = cond (is_test (node_at f.nodes p).end) (steps_between traces outs p n (λ v. v)) []

-- of the edge of a test, whose target has no other predecessor: they stand at the head of the target
abbrev pub test_steps : Flow → List Trace → List TraceOut → ℕ → List Step
test_steps f traces outs n = steps_from f traces outs (node_at f.nodes n).preds n

-- of the entry's edge
abbrev pub entry_steps : Flow → List Trace → List TraceOut → List Step
entry_steps f traces outs =
    let params = (node_at f.nodes 0).params in
    order_of (edge_moves (entry_places (length params)) (start_at traces outs 0) (entry_argument params))

---- Lines in code order

abbrev pub node_lines : Flow → List Trace → List TraceOut → ℕ → List CodeLine
node_lines f traces outs n =
    Begins n ∷ map Edge (test_steps f traces outs n) ++ map Body (lines_at traces outs n) ++ map Edge (jump_steps f traces outs n) ++ Leave n ∷ []

abbrev pub placed_of : Flow → List Trace → List TraceOut → List CodeLine
placed_of f traces outs = map Edge (entry_steps f traces outs) ++ flat_map (node_lines f traces outs) (all_nodes (lists_of traces))
