-- What each event changes.
use Rattle.std.specs.Prelude.{◌≡◌, ℕ, zero, suc, ◌+◌, ◌-◌, ◌<◌, List, [], ◌∷◌, ◌++◌, length, Bool, true, false, cond, ◌==◌, nat_lt, slice_index, slice_set}
use Rattle.pool_core.specs.Tree.{children}
use Rattle.pool_core.specs.declared.model.Stage.{Stage}
use Rattle.pool_core.specs.declared.model.Stage.TheVariants.{Idle, Ticket, Trace, Placed, Stopped, Spent}
use Rattle.pool_core.specs.declared.model.Worker.{Worker}
use Rattle.pool_core.specs.declared.model.State.{State}
use Rattle.pool_core.specs.declared.model.Seen.{Seen}
use Rattle.pool_core.specs.declared.model.Seen.TheVariants as seen

abbrev pub worker : Stage → List ℕ → ℕ → ℕ → Worker
worker stage finished share draws = record { stage = stage; finished = finished; share = share; draws = draws }

abbrev pub at_stage : Worker → Stage → Worker
at_stage w stage = worker stage w.finished w.share w.draws

abbrev pub state : ℕ → ℕ → ℕ → ℕ → List ℕ → List Worker → State
state head tail finished mark cells workers =
    record { head = head; tail = tail; finished = finished; mark = mark; cells = cells; workers = workers }

module _ (P : List (Rattle.std.specs.Prelude.Option ℕ)) where
  -- the child of t after k others
  abbrev pub child : ℕ → ℕ → ℕ
  child t k = slice_index (children P t) k

  abbrev pub drawn_stage : ℕ → Stage
  drawn_stage head = cond (nat_lt head (length P)) (Ticket head) Idle

  abbrev pub drawn : ℕ → Worker → Worker
  drawn head w = worker (drawn_stage head) w.finished w.share (w.draws + 1)

  abbrev pub drawn_seen : ℕ → Seen
  drawn_seen head = cond (nat_lt head (length P)) (seen.Ticket head) seen.NoMore

  -- what a look that found the number x in its cell c leaves
  abbrev pub looked_stage : ℕ → ℕ → Stage
  looked_stage c zero = Ticket c
  looked_stage c (suc t) = Trace t 0

  abbrev pub looked_seen : ℕ → Seen
  looked_seen zero = seen.Empty
  looked_seen (suc t) = seen.Trace t

abbrev pub saw : ℕ → State → ℕ → Worker → State
saw zero s i w = s
saw (suc m) s i w = state s.head s.tail s.finished s.mark s.cells (slice_set s.workers i (at_stage w Stopped))

abbrev pub is_set : ℕ → Bool
is_set zero = false
is_set (suc m) = true

abbrev pub put : State → ℕ → Worker → State
put s i w = state s.head s.tail s.finished s.mark s.cells (slice_set s.workers i w)

module _ (P : List (Rattle.std.specs.Prelude.Option ℕ)) where
  abbrev pub drew : State → ℕ → Worker → State
  drew s i w = state (s.head + 1) s.tail s.finished s.mark s.cells (slice_set s.workers i (drawn P s.head w))

  abbrev pub looked : State → ℕ → Worker → ℕ → State
  looked s i w c = put s i (at_stage w (looked_stage P c (slice_index s.cells c)))

  abbrev pub reserved : State → ℕ → Worker → ℕ → ℕ → State
  reserved s i w t k =
      state s.head (s.tail + 1) s.finished s.mark s.cells (slice_set s.workers i (at_stage w (Placed t k s.tail)))

  abbrev pub showed : State → ℕ → Worker → ℕ → ℕ → ℕ → State
  showed s i w t k d =
      state s.head s.tail s.finished s.mark (slice_set s.cells d (suc (child P t k))) (slice_set s.workers i (at_stage w (Trace t (k + 1))))

  abbrev pub done : Worker → ℕ → Worker
  done w t = worker Idle (w.finished ++ t ∷ []) w.share w.draws

  abbrev pub ended : State → ℕ → Worker → ℕ → State
  ended s i w t = state s.head s.tail (s.finished + 1) s.mark s.cells (slice_set s.workers i (done w t))

  abbrev pub halted : State → ℕ → Worker → State
  halted s i w = state s.head s.tail s.finished 1 s.cells (slice_set s.workers i (at_stage w Stopped))

-- a seat is cut off with a share, or takes in another
abbrev pub parted : ℕ → Worker → Worker
parted part w = worker w.stage w.finished (w.share - part) w.draws

-- an idle or stopped worker
abbrev pub AtRest : Stage → Type 0
AtRest Idle = Unit {0}
AtRest Stopped = Unit {0}
AtRest st = ⊥

abbrev pub merged_stage : Stage → Stage → Stage
merged_stage Stopped b = Stopped
merged_stage a Stopped = Stopped
merged_stage a b = a

abbrev pub merged : Worker → Worker → Worker
merged v w = worker (merged_stage v.stage w.stage) (v.finished ++ w.finished) (v.share + w.share) (v.draws + w.draws)

abbrev pub nobody : Worker
nobody = worker Spent [] 0 0
