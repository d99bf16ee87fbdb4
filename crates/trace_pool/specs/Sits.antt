-- When a seat is one of a pool, and what a call adds to its trail.
use Rattle.std.specs.Prelude.{◌≡◌, Bool, true, false, ℕ, ◌+◌, ◌<◌, ◌≤◌, List, [], ◌∷◌, ◌++◌, length, drop, Option, Some, None}
use Rattle.atomic_table.specs.Seated.{TableId}
use Rattle.pool_core.specs.Tree.{children}
use Rattle.pool_core.specs.declared.model.Stage.{Stage}
use Rattle.pool_core.specs.declared.model.Stage.TheVariants.{Idle, Ticket, Trace, Placed, Stopped, Spent}
use Rattle.pool_core.specs.declared.model.Event.TheVariants as event
use Rattle.pool_core.specs.declared.model.Seen.TheVariants as seen
use Rattle.trace_pool.specs.declared.parts.Content.{Content}
use Rattle.trace_pool.specs.declared.parts.Step.{Step}
use Rattle.trace_pool.specs.Plays.{over, trace_of, count_of, entry, view, moved, Sat, Carries}
use Rattle.trace_pool.specs.declared.parts.View.{View}
use Rattle.pool_core.specs.Events.{at_stage, child, done, drawn, drawn_seen, AtRest}
use Rattle.trace_pool.specs.Slots.{SawNoMore}

-- numbers of cells and traces are below the number of slots
abbrev pub InRange : ℕ → Stage → Type 0
InRange n Idle = Unit {0}
InRange n (Ticket c) = c < n
InRange n (Trace t k) = t < n
InRange n (Placed t k d) = (t < n) × (d < n)
InRange n Stopped = Unit {0}
InRange n Spent = Unit {0}

module _ {W H D : Type 0} (parents : W → List (Option ℕ)) where
  -- the seat is of the table z over this work, with this stage
  pub record Sits (z of_seat : TableId) (work : W) (stage : Stage) (me : Sat W H D) : Type 0 where
    pub same_table : of_seat ≡ z
    pub same_work : me.0.work ≡ work
    pub carries : Carries (parents work) stage me.1
    pub in_range : InRange z.slots stage
    pub sized : z.slots ≡ length (parents work)

-- these are the hints of these children, in order
abbrev pub HintsFit : {H : Type 0} → (ℕ → H → Type 0) → List ℕ → List (ℕ × H) → Type 0
HintsFit fits [] [] = Unit {0}
HintsFit fits (c ∷ cs) (x ∷ xs) = (x.0 ≡ c) × fits c x.1 × HintsFit fits cs xs
HintsFit fits cs xs = ⊥

-- a reserve and a show for each child, with the places that the reserves saw
abbrev pub shown_steps : List ℕ → List Step
shown_steps [] = []
shown_steps (p ∷ ps) = entry event.Reserve (seen.Ticket p) ∷ entry event.Show seen.Nothing ∷ shown_steps ps

-- the stage has a trace, of which this is the next child
abbrev pub IsNext : List (Option ℕ) → Stage → ℕ → Type 0
IsNext P (Trace t k) c = (k < length (children P t)) × (c ≡ child P t k)
IsNext P st c = ⊥

-- the view, with one child more shown, in the place p
abbrev pub with_child : {W : Type 0} → View W → ℕ → View W
with_child v p =
    let t = trace_of v.worker.stage in
    let k = count_of v.worker.stage in
    moved (moved v (at_stage v.worker (Placed t k p)) event.Reserve (seen.Ticket p)) (at_stage v.worker (Trace t (k + 1))) event.Show seen.Nothing

-- the view, with as many children shown as there are places
abbrev pub showing_view : {W : Type 0} → View W → ℕ → List ℕ → View W
showing_view v t ps = view v.work (at_stage v.worker (Trace t (length ps))) (v.trail ++ shown_steps ps)

abbrev pub finished_view : {W : Type 0} → List (Option ℕ) → View W → ℕ → List ℕ → View W
finished_view P v t ps = view v.work (done P v.worker t) ((v.trail ++ shown_steps ps) ++ entry event.Finish seen.Nothing ∷ [])

abbrev pub finished_now : {W : Type 0} → View W → View W
finished_now v = moved v (done [] v.worker (trace_of v.worker.stage)) event.Finish seen.Nothing

module _ {W H D : Type 0} (parents : W → List (Option ℕ)) (is_hint : W → ℕ → H → Type 0) where
  -- amid a finish: the first children are shown, and the hints of the others are left
  pub record Amid (z of_seat : TableId) (work : W) (before : View W) (t : ℕ) (stage : Stage) (me : Sat W H D) (left : List (ℕ × H)) : Type 0 where
    pub sits : Sits parents z of_seat work stage me
    pub places : List ℕ
    pub here : me.0 ≡ showing_view before t places
    pub stage_is : stage ≡ Trace t (length places)
    pub few : length places ≤ length (children (parents work) t)
    pub fits : HintsFit (is_hint work) (drop (length places) (children (parents work) t)) left

-- the seat is of the table z over this work
abbrev pub SitsOn : {W H D : Type 0} → (W → List (Option ℕ)) → TableId → TableId → W → Stage → Sat (Option W) H D → Type 0
SitsOn parents z of_seat work stage me = Sits (over parents) z of_seat (Some work) stage me

abbrev pub MayStop : Stage → Type 0
MayStop Idle = Unit {0}
MayStop (Ticket c) = Unit {0}
MayStop (Trace t k) = Unit {0}
MayStop st = ⊥

-- what a seat that stops holds: of a trace, its slot, which is empty
abbrev pub IsStopping : {H D : Type 0} → Stage → List (ℕ × Option (Content H D)) → Type 0
IsStopping Idle c = Unit {0}
IsStopping (Ticket d) c = Unit {0}
IsStopping {H} {D} (Trace t k) c = (rest : List (ℕ × Option (Content H D))) × (c ≡ (t, None) ∷ rest)
IsStopping st c = ⊥

-- true: idle; false: stopped
abbrev pub IsEnd : Bool → Stage → Type 0
IsEnd true st = st ≡ Idle
IsEnd false st = st ≡ Stopped

abbrev pub Waits : Stage → Type 0
Waits st = (c : ℕ) × (st ≡ Ticket c)

-- what a worker's seat is when it has ended: it has its share, and where it is idle, a draw saw NoMore
abbrev pub Worked : {W H D : Type 0} → (W → List (Option ℕ)) → TableId → TableId → W → ℕ → Stage → Sat (Option W) H D → Type 0
Worked parents z of_seat work share stage me = SitsOn parents z of_seat work stage me × AtRest stage × (me.0.worker.share ≡ share) × (stage ≡ Idle → SawNoMore me.0.trail)

-- a seat that has not drawn yet, with more than this share
abbrev pub Fresh : {W H D : Type 0} → (W → List (Option ℕ)) → TableId → TableId → W → ℕ → Stage → Sat (Option W) H D → Type 0
Fresh parents z of_seat work least stage me = SitsOn parents z of_seat work stage me × (stage ≡ Idle) × (me.0.worker.draws ≡ 0) × (least ≤ me.0.worker.share)

-- what a draw of this number makes of the view
abbrev pub drawn_view : {W : Type 0} → List (Option ℕ) → View W → ℕ → View W
drawn_view P v r = moved v (drawn P r v.worker) event.Draw (drawn_seen P r)

-- a look that saw an empty cell, and then that the mark is unset
abbrev pub waiting_view : {W : Type 0} → View W → View W
waiting_view v = moved (moved v v.worker event.Look seen.Empty) v.worker event.See (seen.Mark false)

-- a look that saw an empty cell, and then that the mark is set
abbrev pub giving_up_view : {W : Type 0} → View W → View W
giving_up_view v = moved (moved v v.worker event.Look seen.Empty) (at_stage v.worker Stopped) event.See (seen.Mark true)

-- a look that saw a trace
abbrev pub taken_view : {W : Type 0} → View W → ℕ → View W
taken_view v t = moved v (at_stage v.worker (Trace t 0)) event.Look (seen.Trace t)

abbrev pub stopped_view : {W : Type 0} → View W → View W
stopped_view v = moved v (at_stage v.worker Stopped) event.Stop seen.Nothing
