-- Which homes are marked: at a place the values that live there and are homed at the end of the walk.
use Rattle.std.specs.Prelude.{ℕ, zero, suc, cond, List, [], ◌∷◌, ◌++◌, Option, Some, None, slice_get}
use Rattle.block_runs.specs.Blocks.{end_uses, successors}
use Rattle.block_runs.specs.Live.{has}
use Rattle.lir_core.specs.declared.flow.Node.{Node}
use Rattle.lir_core.specs.declared.flow.Flow.{Flow}
use Rattle.lir_core.specs.declared.places.Places.{Places}
use Rattle.lir_core.specs.Rows.{live_into}
use Rattle.loc_state.specs.Homed.{inserted}

-- what is live into each of some nodes
abbrev pub live_at_each : ℕ → List (List ℕ) → List ℕ → List ℕ
live_at_each values rows [] = []
live_at_each values rows (s ∷ ss) = live_into values rows s ++ live_at_each values rows ss

-- the values that live at a node's start, its parameters with them, and at its end: what is live into a node that follows, and what the end reads or passes on
abbrev pub at_start : ℕ → List (List ℕ) → ℕ → Option Node → List ℕ
at_start values rows n None = live_into values rows n
at_start values rows n (Some node) = live_into values rows n ++ node.params

abbrev pub at_end : ℕ → List (List ℕ) → Option Node → List ℕ
at_end values rows None = []
at_end values rows (Some node) = live_at_each values rows (successors node.end) ++ end_uses node.end

-- values that are homed join a set
abbrev pub marked_one : List ℕ → ℕ → List ℕ → List ℕ
marked_one homed v marks = cond (has homed v) (inserted v marks) marks

abbrev pub marked : List ℕ → List ℕ → List ℕ → List ℕ
marked homed [] marks = marks
marked homed (v ∷ vs) marks = marked homed vs (marked_one homed v marks)

abbrev pub with_marks : List ℕ → List ℕ → Places → Places
with_marks homed vs q = record { regs = q.regs; homed = marked homed vs [] }

-- the places at an index get homes
abbrev pub put_homes : ℕ → List ℕ → List Places → List Places
put_homes n homed [] = []
put_homes zero homed (q ∷ qs) = record q { homed = homed } ∷ qs
put_homes (suc n) homed (q ∷ qs) = q ∷ put_homes n homed qs

module _ (f : Flow) (rows : List (List ℕ)) (homed : List ℕ) where
  -- the places at the starts of some nodes, and at their ends, with their homes
  abbrev pub starts_marked : List ℕ → List Places → List Places
  starts_marked [] qs = qs
  starts_marked (n ∷ ns) [] = []
  starts_marked (n ∷ ns) (q ∷ qs) = with_marks homed (at_start f.values rows n (slice_get f.nodes n)) q ∷ starts_marked ns qs

  abbrev pub ends_marked : List ℕ → List Places → List Places
  ends_marked [] qs = qs
  ends_marked (n ∷ ns) [] = []
  ends_marked (n ∷ ns) (q ∷ qs) = with_marks homed (at_end f.values rows (slice_get f.nodes n)) q ∷ ends_marked ns qs
