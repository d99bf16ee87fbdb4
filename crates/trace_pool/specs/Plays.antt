-- What each step tells: of the step, the seat before, the number found and the seat after.
use Rattle.std.specs.Prelude.{◌≡◌, true, false, ℕ, zero, suc, ◌+◌, ◌<◌, List, [], ◌∷◌, ◌++◌, length, Option, Some, None}
use lib.ListN.{get_elem?}
use Rattle.atomic_table.specs.Table as table
use Rattle.pool_core.specs.Events.{at_stage, child, drawn, drawn_seen, done, parted, merged, nobody}
use Rattle.pool_core.specs.Runs.{fresh}
use Rattle.pool_core.specs.declared.model.Stage.{Stage}
use Rattle.pool_core.specs.declared.model.Stage.TheVariants.{Idle, Ticket, Trace, Placed, Stopped, Spent}
use Rattle.pool_core.specs.declared.model.Worker.{Worker}
use Rattle.pool_core.specs.declared.model.Event.{Event}
use Rattle.pool_core.specs.declared.model.Event.TheVariants as event
use Rattle.pool_core.specs.declared.model.Seen.{Seen}
use Rattle.pool_core.specs.declared.model.Seen.TheVariants as seen
use Rattle.trace_pool.specs.declared.parts.Content.{Content}
use Rattle.trace_pool.specs.declared.parts.Step.{Step}
use Rattle.trace_pool.specs.declared.parts.View.{View}
use Rattle.trace_pool.specs.Slots.{HintFits, SawNoMore}
use Rattle.pool_core.specs.Sums.{times}

-- The work in a view is an option, since a view that was joined into another has none
abbrev pub over : {W X : Type 0} → (W → List X) → Option W → List X
over f None = []
over f (Some w) = f w

abbrev pub over_fact : {W X : Type 0} → (W → ℕ → X → Type 0) → Option W → ℕ → X → Type 0
over_fact f None t x = ⊥
over_fact f (Some w) t x = f w t x

abbrev pub trace_of : Stage → ℕ
trace_of Idle = 0
trace_of (Ticket d) = 0
trace_of (Trace t k) = t
trace_of (Placed t k d) = t
trace_of Stopped = 0
trace_of Spent = 0

abbrev pub count_of : Stage → ℕ
count_of Idle = 0
count_of (Ticket d) = 0
count_of (Trace t k) = k
count_of (Placed t k d) = k
count_of Stopped = 0
count_of Spent = 0

abbrev pub entry : Event → Seen → Step
entry e x = record { event = e; seen = x }

abbrev pub Sat : Type 0 → Type 0 → Type 0 → Type 0
Sat W H D = table.Me (Option (Content H D)) (View W)

abbrev pub Said : Type 0 → Type 0 → Type 0
Said H D = table.Step (Option (Content H D))

module _ {W : Type 0} where
  abbrev pub view : W → Worker → List Step → View W
  view work worker trail = record { work = work; worker = worker; trail = trail }

  -- the seat has changed to this worker, and its trail has one entry more
  abbrev pub moved : View W → Worker → Event → Seen → View W
  moved v w e x = view v.work w (v.trail ++ entry e x ∷ [])

  abbrev pub first : ℕ → W → View W
  first share work = view work (record { stage = Idle; finished = []; share = share; draws = 0 }) []

  module _ {H D : Type 0} (parents : W → List (Option ℕ)) where
    abbrev pub drew : Said H D → Sat W H D → ℕ → Sat W H D → Type 0
    drew st m r n = (n ≡ (moved m.0 (drawn (parents m.0.work) r m.0.worker) event.Draw (drawn_seen (parents m.0.work) r), m.1)) × (st.slots ≡ length (parents m.0.work))

    -- a look that found 0 changes nothing, and one that found a trace takes its slot
    abbrev pub looked : (W → ℕ → H → Type 0) → Said H D → Sat W H D → ℕ → Sat W H D → Type 0
    looked is_hint st m zero n = n ≡ (moved m.0 m.0.worker event.Look seen.Empty, m.1)
    looked is_hint st m (suc t) n = (x : Option (Content H D)) × (n ≡ (moved m.0 (at_stage m.0.worker (Trace t 0)) event.Look (seen.Trace t), (t, x) ∷ m.1)) × HintFits (get_elem? (parents m.0.work) t) (is_hint m.0.work t) x × (t < length (parents m.0.work))

    abbrev pub reserved : Said H D → Sat W H D → ℕ → Sat W H D → Type 0
    reserved st m r n = let t = trace_of m.0.worker.stage in let k = count_of m.0.worker.stage in
        (n ≡ (moved m.0 (at_stage m.0.worker (Placed t k r)) event.Reserve (seen.Ticket r), (child (parents m.0.work) t k, None) ∷ m.1)) × (r < st.slots)

    abbrev pub showed : Said H D → Sat W H D → ℕ → Sat W H D → Type 0
    showed st m r n = n ≡ (moved m.0 (at_stage m.0.worker (Trace (trace_of m.0.worker.stage) (count_of m.0.worker.stage + 1))) event.Show seen.Nothing, table.rest m.1)

    abbrev pub ended : Said H D → Sat W H D → ℕ → Sat W H D → Type 0
    ended st m r n = n ≡ (moved m.0 (done (parents m.0.work) m.0.worker (trace_of m.0.worker.stage)) event.Finish seen.Nothing, table.rest m.1)

-- the slots that a seat holds
module _ {H D : Type 0} (P : List (Option ℕ)) where
  abbrev pub Carries : Stage → List (ℕ × Option (Content H D)) → Type 0
  Carries Idle c = c ≡ []
  Carries (Ticket d) c = c ≡ []
  Carries (Trace t k) c = (x : Option (Content H D)) × (c ≡ (t, x) ∷ [])
  Carries (Placed t k d) c = (x : Option (Content H D)) × (y : Option (Content H D)) × (c ≡ (child P t k, x) ∷ (t, y) ∷ [])
  Carries Stopped c = c ≡ []
  Carries Spent c = c ≡ []

module _ {W : Type 0} where
  -- a view that gave a part of its share away, and the new view that has it
  abbrev pub cut : ℕ → View W → View W
  cut part v = view v.work (parted part v.worker) v.trail

  abbrev pub part_of : ℕ → View W → View W
  part_of part v = view v.work (fresh part) []

  abbrev pub both_views : View W → View W → View W
  both_views v w = view v.work (merged v.worker w.worker) (v.trail ++ w.trail)

abbrev pub no_view : {W : Type 0} → View (Option W)
no_view = view None nobody []

-- the seat has stopped, and its slot went home where it had one
abbrev pub drop_last : {A : Type 0} → Stage → List A → List A
drop_last (Trace t k) [] = []
drop_last (Trace t k) (x ∷ xs) = xs
drop_last st xs = xs

abbrev pub halted : {W H D : Type 0} → Said H D → Sat W H D → ℕ → Sat W H D → Type 0
halted st m r n = n ≡ (moved m.0 (at_stage m.0.worker Stopped) event.Stop seen.Nothing, drop_last m.0.worker.stage m.1)

-- a look at the mark, which stops the seat where it is set
abbrev pub saw : {W H D : Type 0} → Said H D → Sat W H D → ℕ → Sat W H D → Type 0
saw st m zero n = n ≡ (moved m.0 m.0.worker event.See (seen.Mark false), m.1)
saw st m (suc r) n = n ≡ (moved m.0 (at_stage m.0.worker Stopped) event.See (seen.Mark true), m.1)

-- a look that changes nothing: the last seat, idle after a NoMore, has finished every trace
abbrev pub completed : {W H D : Type 0} → ℕ → Said H D → Sat W H D → ℕ → Sat W H D → Type 0
completed whole st m r n = (n ≡ m) × (m.0.worker.share ≡ whole → m.0.worker.stage ≡ Idle → SawNoMore m.0.trail → (t : ℕ) → t < st.slots → 0 < times t m.0.worker.finished)
