-- The rule that each event keeps. Where it says "one worker" or "once", it says so by sums over the workers: how
-- many of them have a ticket, a place or a trace is 1 there, and 0 elsewhere.
use Rattle.std.specs.Prelude.{◌≡◌, ℕ, zero, suc, ◌+◌, ◌<◌, ◌≤◌, List, [], length, take, Option, slice_index, min}
use mathlib.Core.Option.{some}
use lib.ListN.{get_elem?}
use Rattle.pool_core.specs.Sums.{total, hit, under, times}
use Rattle.pool_core.specs.Tree.{roots, children}
use Rattle.pool_core.specs.declared.model.Stage.{Stage}
use Rattle.pool_core.specs.declared.model.Stage.TheVariants.{Idle, Ticket, Trace, Placed, Stopped, Spent}
use Rattle.pool_core.specs.declared.model.Worker.{Worker}
use Rattle.pool_core.specs.declared.model.State.{State}

-- 1 where the number of a cell is the stage's ticket
abbrev pub ticket : ℕ → Stage → ℕ
ticket c Idle = 0
ticket c (Ticket d) = hit c d
ticket c (Trace t k) = 0
ticket c (Placed t k d) = 0
ticket c Stopped = 0
ticket c Spent = 0

-- 1 where the cell is reserved
abbrev pub place : ℕ → Stage → ℕ
place c Idle = 0
place c (Ticket d) = 0
place c (Trace t k) = 0
place c (Placed t k d) = hit c d
place c Stopped = 0
place c Spent = 0

-- the weight of the trace that the stage has
abbrev pub having : (ℕ → ℕ) → Stage → ℕ
having f Idle = 0
having f (Ticket d) = 0
having f (Trace t k) = f t
having f (Placed t k d) = f t
having f Stopped = 0
having f Spent = 0

abbrev pub is_working : Stage → ℕ
is_working stage = having (λ _. 1) stage

abbrev pub is_stopped : Stage → ℕ
is_stopped Idle = 0
is_stopped (Ticket d) = 0
is_stopped (Trace t k) = 0
is_stopped (Placed t k d) = 0
is_stopped Stopped = 1
is_stopped Spent = 0

abbrev pub filled : ℕ → ℕ
filled zero = 0
filled (suc t) = 1

module _ (P : List (Option ℕ)) where
  -- the weight of the children that the stage has shown
  abbrev pub showing : (ℕ → ℕ) → Stage → ℕ
  showing f Idle = 0
  showing f (Ticket d) = 0
  showing f (Trace t k) = total f (take k (children P t))
  showing f (Placed t k d) = total f (take k (children P t))
  showing f Stopped = 0
  showing f Spent = 0

  -- how many children are shown or have a reserved cell
  abbrev pub spread : Stage → ℕ
  spread Idle = 0
  spread (Ticket d) = 0
  spread (Trace t k) = k
  spread (Placed t k d) = k + 1
  spread Stopped = 0
  spread Spent = 0

  abbrev pub Within : Stage → Type 0
  Within Idle = Unit {0}
  Within (Ticket d) = Unit {0}
  Within (Trace t k) = k ≤ length (children P t)
  Within (Placed t k d) = k < length (children P t)
  Within Stopped = Unit {0}
  Within Spent = Unit {0}

  -- over all workers, and over what stopped workers gave up
  abbrev pub both : (Stage → ℕ) → (ℕ → ℕ) → List Worker → List Stage → ℕ
  both f g ws lost = total (λ w. f w.stage + total g w.finished) ws + total f lost

  -- how often the trace was taken
  abbrev pub taken : ℕ → List Worker → List Stage → ℕ
  taken t ws lost = both (having (hit t)) (hit t) ws lost

  abbrev pub taken_at : ℕ → List Worker → List Stage → ℕ
  taken_at zero ws lost = 0
  taken_at (suc t) ws lost = taken t ws lost

  -- how often the trace was shown by its parent's worker
  abbrev pub shown_by : ℕ → List Worker → List Stage → ℕ
  shown_by t ws lost = both (showing (hit t)) (λ p. times t (children P p)) ws lost

  abbrev pub size : ℕ → ℕ
  size p = length (children P p)

  -- a worker draws no oftener than its share lets it, shows no more children than there are, and only one that was
  -- joined into another has no share
  pub record Fair (w : Worker) : Type 0 where
    pub bounded : w.draws ≤ w.share
    pub within : Within w.stage
    pub spent : w.share ≡ 0 → (w.stage ≡ Spent) × (w.finished ≡ [])

  -- `lost` is what stopped workers gave up, `whole` the sum of all shares
  pub record Rule (whole : ℕ) (lost : List Stage) (s : State) : Type 0 where
    pub wide : length s.cells ≡ length P
    pub heads : total (λ w. w.draws) s.workers ≡ s.head
    pub shares : total (λ w. w.share) s.workers ≡ whole
    pub fair : (i : ℕ) (w : Worker) → get_elem? s.workers i ≡ some w → Fair w
    -- each cell below tail shows a trace or is the reserved place of one worker, and each other is 0
    pub cells : (c : ℕ) → filled (slice_index s.cells c) + total (λ w. place c w.stage) s.workers ≡ under c s.tail
    -- as many are shown or reserved as there are traces without a parent, and children of traces that were taken
    pub tails : s.tail ≡ length (roots P) + both spread size s.workers lost
    -- each ticket below head and T belongs to one worker, or its cell's trace was taken, or it was given up
    pub tickets : (c : ℕ) →
        total (λ w. ticket c w.stage) s.workers + total (ticket c) lost + taken_at (slice_index s.cells c) s.workers lost
        ≡ under c (min s.head (length P))
    -- what was taken is shown
    pub known : (t : ℕ) → taken t s.workers lost ≤ times (suc t) s.cells
    -- shown are the traces without a parent and the children that their parent's worker has shown
    pub shown : (t : ℕ) → times (suc t) s.cells ≡ times t (roots P) + shown_by t s.workers lost
    -- all finished lists together have as many entries as the count says
    pub counted : total (λ w. length w.finished) s.workers ≡ s.finished
    pub lost_within : (i : ℕ) (g : Stage) → get_elem? lost i ≡ some g → Within g
    -- nothing is given up where no worker is stopped, and none is stopped where the mark is unset
    pub given_up : total (λ w. is_stopped w.stage) s.workers ≡ 0 → lost ≡ []
    pub unset : s.mark ≡ 0 → total (λ w. is_stopped w.stage) s.workers ≡ 0

  -- the same, for some list of what was given up
  abbrev pub Kept : ℕ → State → Type 0
  Kept whole s = (lost : List Stage) × Rule whole lost s
