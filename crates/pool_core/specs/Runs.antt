-- Who may do what, what it makes of the state, what is seen, and lists of events.
use Rattle.std.specs.Prelude.{◌≡◌, ℕ, zero, suc, ◌+◌, ◌-◌, ◌<◌, ◌≤◌, List, [], ◌∷◌, ◌++◌, length, map, replicate, slice_index, slice_set, ◌⊎◌, Option}
use mathlib.Core.Option.{none, some}
use lib.ListN.{get_elem?}
use Rattle.pool_core.specs.Sums.{total, times}
use Rattle.pool_core.specs.Tree.{roots}
use Rattle.pool_core.specs.Events.{worker, state, drew, looked, reserved, showed, ended, halted, saw, is_set, drawn_seen, looked_seen}
use Rattle.pool_core.specs.Rule.{size}
use Rattle.pool_core.specs.declared.model.Stage.{Stage}
use Rattle.pool_core.specs.declared.model.Stage.TheVariants.{Idle, Ticket, Trace, Placed}
use Rattle.pool_core.specs.declared.model.Worker.{Worker}
use Rattle.pool_core.specs.declared.model.State.{State}
use Rattle.pool_core.specs.declared.model.Event.{Event}
use Rattle.pool_core.specs.declared.model.Event.TheVariants.{Draw, Look, Reserve, Show, Finish, Stop, See}
use Rattle.pool_core.specs.declared.model.Seen.{Seen}
use Rattle.pool_core.specs.declared.model.Seen.TheVariants as seen

module _ (P : List (Option ℕ)) where
  -- the row's condition on the worker that acts
  abbrev pub May : Event → Stage → Worker → Type 0
  May Draw Idle w = w.draws < w.share
  May Look (Ticket c) w = Unit {0}
  May Reserve (Trace t k) w = k < size P t
  May Show (Placed t k d) w = Unit {0}
  May Finish (Trace t k) w = k ≡ size P t
  May Stop Idle w = Unit {0}
  May Stop (Ticket c) w = Unit {0}
  May Stop (Trace t k) w = Unit {0}
  May See (Ticket c) w = Unit {0}
  May e st w = ⊥

  abbrev pub after : Event → Stage → State → ℕ → Worker → State
  after Draw st s i w = drew P s i w
  after Look (Ticket c) s i w = looked P s i w c
  after Reserve (Trace t k) s i w = reserved P s i w t k
  after Show (Placed t k d) s i w = showed P s i w t k d
  after Finish (Trace t k) s i w = ended P s i w t
  after Stop st s i w = halted P s i w
  after See (Ticket c) s i w = saw s.mark s i w
  after e st s i w = s

  abbrev pub sees : Event → Stage → State → Seen
  sees Draw st s = drawn_seen P s.head
  sees Look (Ticket c) s = looked_seen P (slice_index s.cells c)
  sees Reserve st s = seen.Ticket s.tail
  sees See st s = seen.Mark (is_set s.mark)
  sees e st s = seen.Nothing

  -- there is such a worker, and the row allows it the event
  abbrev pub Can : State → ℕ → Event → Type 0
  Can s i e = (w : Worker) × (get_elem? s.workers i ≡ some w) × May e w.stage w

  abbrev pub seen_of : Event → State → mathlib.Core.Option.Option Worker → Seen
  seen_of e s none = seen.Nothing
  seen_of e s (some w) = sees e w.stage s

  -- what the worker sees in the event
  abbrev pub seen_in : State → ℕ → Event → Seen
  seen_in s i e = seen_of e s (get_elem? s.workers i)

  abbrev pub next_of : Rattle.std.specs.Prelude.ℕ → Event → State → mathlib.Core.Option.Option Worker → State
  next_of i e s none = s
  next_of i e s (some w) = after e w.stage s i w

  abbrev pub next : State → ℕ → Event → State
  next s i e = next_of i e s (get_elem? s.workers i)

  abbrev pub runs : List (ℕ × Event) → State → State
  runs [] s = s
  runs (x ∷ xs) s = runs xs (next s x.0 x.1)

  -- each event of the list is allowed when it comes
  abbrev pub Allowed : List (ℕ × Event) → State → Type 0
  Allowed [] s = Unit {0}
  Allowed (x ∷ xs) s = Can s x.0 x.1 × Allowed xs (next s x.0 x.1)

  -- the first cells show the traces without a parent
  abbrev pub opening_cells : List ℕ
  opening_cells = map suc (roots P) ++ replicate (length P - length (roots P)) 0

  -- the traces without a parent are shown, and nothing was done
  abbrev pub opening : List Worker → State
  opening ws = state 0 (length (roots P)) 0 0 opening_cells ws

  abbrev pub IsFinished : State → ℕ → Type 0
  IsFinished s t = 0 < total (λ w. times t w.finished) s.workers

  -- the trace is shown in a cell that is not drawn yet, or is some worker's ticket
  abbrev pub IsWaiting : State → ℕ → Type 0
  IsWaiting s t = (c : ℕ) × (slice_index s.cells c ≡ suc t)
      × ((s.head ≤ c) ⊎ ((i : ℕ) × (w : Worker) × (get_elem? s.workers i ≡ some w) × (w.stage ≡ Ticket c)))

abbrev pub fresh : ℕ → Worker
fresh share = worker Idle [] share 0
