-- A table of places, and the hints that are found by it.
use Rattle.std.specs.Prelude.{ℕ, ◌+◌, ◌==◌, Bool, false, cond, List, [], ◌∷◌, length, Option, Some, None, slice_get, slice_set, slice_index_or}
use Rattle.lir_core.specs.declared.flow.Node.{Node}
use Rattle.lir_core.specs.declared.flow.Trace.{Trace}
use Rattle.lir_core.specs.declared.places.TraceOut.{TraceOut}
use Rattle.lir_core.specs.Sound.{no_places}
use Rattle.linear_scan.specs.Linear.{Hint}
use Rattle.trace_work.specs.declared.hints.Entering.{Entering}

-- these nodes stand at the places from i on
abbrev pub placed_in : ℕ → List ℕ → List ℕ → List ℕ
placed_in i [] places = places
placed_in i (n ∷ ns) places = placed_in (i + 1) ns (slice_set places n i)

abbrev pub placed_all : List Trace → List ℕ → List ℕ
placed_all [] places = places
placed_all (t ∷ ts) places = placed_all ts (placed_in 0 t.nodes places)

---- The first predecessor that a trace has

abbrev pub is_it : ℕ → Option ℕ → Bool
is_it n None = false
is_it n (Some m) = m == n

-- node n stands at that place
abbrev pub has_at : List ℕ → ℕ → ℕ → Bool
has_at ns place n = is_it n (slice_get ns place)

abbrev pub first_held : List ℕ → List ℕ → List ℕ → Option Entering
first_held places parent [] = None
first_held places parent (n ∷ ns) = cond (has_at parent (slice_index_or places n 0) n) (Some (record { node = n; place = slice_index_or places n 0 })) (first_held places parent ns)

abbrev pub entering_by : Option Node → List ℕ → List ℕ → Option Entering
entering_by None places parent = None
entering_by (Some node) places parent = first_held places parent node.preds

---- Hints

abbrev pub hint_of_place : TraceOut → Option Entering → Option Hint
hint_of_place out None = None
hint_of_place out (Some e) = Some (record { node = e.node; places = slice_index_or out.ends e.place no_places })

-- the hint that the result of the trace above gives to a trace of that head, by the table
abbrev pub hint_by : List Node → List ℕ → Trace → TraceOut → Option ℕ → Option Hint
hint_by nodes places above out None = None
hint_by nodes places above out (Some head) = hint_of_place out (entering_by (slice_get nodes head) places above.nodes)

-- a hint of so many registers
abbrev pub if_row : ℕ → Option Hint → Option Hint
if_row k None = None
if_row k (Some h) = cond (length h.places.regs == k) (Some h) None
