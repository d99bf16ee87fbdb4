-- The traces of a flow (Eisl and others, 2016): as long as nodes are unassigned, the most frequent of them begins a trace, which grows along edges over unassigned nodes.
use Rattle.std.specs.Prelude.{ℕ, zero, suc, ◌+◌, ◌==◌, nat_lt, nat_le, Bool, true, false, ◌&&◌, ◌||◌, cond, List, [], ◌∷◌, ◌++◌, length, fold, reverse, filter, count_by, replicate, slice_index_or, slice_set, Option, Some, None}
use Rattle.run_laws.specs.Layers.{places_from}
use Rattle.block_runs.specs.Blocks.{successors}
use Rattle.lir_core.specs.declared.flow.Node.{Node}
use Rattle.lir_core.specs.declared.flow.Flow.{Flow}
use Rattle.lir_core.specs.Flows.{node_at}
use Rattle.trace_build.specs.declared.builder.Builder.{Builder}
use Rattle.trace_build.specs.declared.builder.Builder.TheVariants.{Uni, Bi}
use Rattle.trace_build.specs.declared.growing.Direction.{Direction}
use Rattle.trace_build.specs.declared.growing.Direction.TheVariants.{Up, Down}

---- Sets of nodes, as for each node whether it is in the set

abbrev pub is_in : List Bool → ℕ → Bool
is_in set n = slice_index_or set n false

abbrev pub without : List Bool → ℕ → List Bool
without set n = slice_set set n false

abbrev pub without_all : List Bool → List ℕ → List Bool
without_all set [] = set
without_all set (n ∷ ns) = without_all (without set n) ns

abbrev pub members : List Bool → List ℕ
members set = filter (is_in set) (places_from 0 (length set))

abbrev pub size : List Bool → ℕ
size set = count_by (λ b. b) set

---- The most frequent node

-- a is taken before b: it is more frequent, or as frequent and its number isn't higher
abbrev pub is_before : List Node → ℕ → ℕ → Bool
is_before nodes a b = nat_lt (node_at nodes b).freq (node_at nodes a).freq || ((node_at nodes a).freq == (node_at nodes b).freq && nat_le a b)

-- of two nodes the one that is taken before
abbrev pub first_of : List Node → Option ℕ → ℕ → Option ℕ
first_of nodes None n = Some n
first_of nodes (Some m) n = Some (cond (is_before nodes m n) m n)

-- of some nodes the one that is taken first
abbrev pub most_frequent : List Node → List ℕ → Option ℕ
most_frequent nodes ns = fold (first_of nodes) None ns

---- Growing

-- only the node that enters a loop, where there is a loop
abbrev pub may_enter : Option ℕ → ℕ → Bool
may_enter None n = true
may_enter (Some e) n = n == e

abbrev pub unassigned : List Bool → Option ℕ → List ℕ → List ℕ
unassigned free enter ns = filter (λ n. is_in free n && may_enter enter n) ns

-- the node to which a trace grows from node n on: downward, or upward, from a loop's header only to the node that enters the loop
abbrev pub next_of : Direction → List Node → List Bool → ℕ → Option ℕ
next_of Down nodes free n = most_frequent nodes (unassigned free None (successors (node_at nodes n).end))
next_of Up nodes free n = most_frequent nodes (unassigned free (node_at nodes n).enter (node_at nodes n).preds)

-- a list that begins with what there is, if there is any
abbrev pub going_on : Option ℕ → (ℕ → List ℕ) → List ℕ
going_on None rest = []
going_on (Some m) rest = m ∷ rest m

-- the nodes by which a trace grows from node n on, the nearest first, by at most k of them
abbrev pub grown : Direction → List Node → ℕ → List Bool → ℕ → List ℕ
grown way nodes zero free n = []
grown way nodes (suc k) free n = going_on (next_of way nodes free n) (λ m. grown way nodes k (without free m) m)

-- what comes to stand above a node and below it, the nearest first
abbrev pub above : Builder → List Node → List Bool → ℕ → List ℕ
above Uni nodes free n = []
above Bi nodes free n = grown Up nodes (size free) free n

abbrev pub below : List Node → List Bool → ℕ → List ℕ
below nodes free n = grown Down nodes (size free) free n

-- the trace that a node begins, where `free` are the others that are unassigned: first it grows upward, then downward
abbrev pub trace_from : Builder → List Node → List Bool → ℕ → List ℕ
trace_from builder nodes free seed = reverse (above builder nodes free seed) ++ seed ∷ below nodes (without_all free (above builder nodes free seed)) seed

---- All traces

abbrev pub if_any : Option ℕ → (ℕ → List (List ℕ)) → List (List ℕ)
if_any None rest = []
if_any (Some seed) rest = rest seed

-- at most k traces of the unassigned nodes
abbrev pub traces_from : Builder → List Node → ℕ → List Bool → List (List ℕ)
traces_from builder nodes zero free = []
traces_from builder nodes (suc k) free =
    if_any (most_frequent nodes (members free))
    (λ seed. trace_from builder nodes (without free seed) seed ∷ traces_from builder nodes k (without_all free (trace_from builder nodes (without free seed) seed)))

-- the traces of a flow; there are no more than nodes, since each has one
abbrev pub traces_of : Builder → List Node → List (List ℕ)
traces_of builder nodes = traces_from builder nodes (length nodes) (replicate (length nodes) true)

-- how many traces there are of some flows
abbrev pub traces_in : Builder → List Flow → ℕ
traces_in builder [] = 0
traces_in builder (f ∷ fs) = length (traces_of builder f.nodes) + traces_in builder fs
