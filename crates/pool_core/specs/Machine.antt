-- What a `Core` is seen as, and what is true of each.
use Rattle.std.specs.Prelude.{◌≡◌, ℕ, suc, ◌*◌, ◌≤◌, List, [], ◌∷◌, length, Bool, true, false, ◌==◌, Option, slice_get}
use mathlib.Core.Option.{some}
use lib.ListN.{get_elem?}
use Rattle.pool_core.specs.Tree.{IsTree, children, put_if}
use Rattle.pool_core.specs.Events.{worker, state}
use Rattle.pool_core.specs.Rule.{Kept}
use Rattle.pool_core.specs.declared.model.Stage.{Stage}
use Rattle.pool_core.specs.declared.model.Stage.TheVariants.{Idle, Ticket, Trace, Placed, Stopped, Spent}
use Rattle.pool_core.specs.declared.model.Worker.{Worker}
use Rattle.pool_core.specs.declared.model.State.{State}
use Rattle.pool_core.specs.declared.workers.Hand.{Hand}
use Rattle.pool_core.specs.declared.workers.Entry.{Entry}

-- the traces by their parents, and the pool's state
pub record Machine : Type 0 where
  pub parents : List (Option ℕ)
  pub state : State

-- the share of each worker
abbrev pub one_share : ℕ
one_share = 4294967296

-- what the worker finished, in order
abbrev pub finished_of : ℕ → List Entry → List ℕ
finished_of i [] = []
finished_of i (e ∷ es) = put_if (e.worker == i) e.trace (finished_of i es)

abbrev pub worker_of : ℕ → Hand → List Entry → Worker
worker_of i h log = worker h.stage (finished_of i log) one_share h.draws

-- the workers from number i on
abbrev pub workers_from : ℕ → List Hand → List Entry → List Worker
workers_from i [] log = []
workers_from i (h ∷ hs) log = worker_of i h log ∷ workers_from (suc i) hs log

abbrev pub mark_of : Bool → ℕ
mark_of false = 0
mark_of true = 1

abbrev pub state_of : ℕ → ℕ → Bool → List ℕ → List Hand → List Entry → State
state_of head tail stopped cells hands log =
    state head tail (length log) (mark_of stopped) cells (workers_from 0 hands log)

module _ (P : List (Option ℕ)) where
  -- of a worker with a trace, this is the next child that it shows
  abbrev pub IsNextOf : Stage → Option ℕ → Type 0
  IsNextOf Idle o = Unit {0}
  IsNextOf (Ticket d) o = Unit {0}
  IsNextOf (Trace t k) o = o ≡ slice_get (children P t) k
  IsNextOf (Placed t k d) o = o ≡ slice_get (children P t) k
  IsNextOf Stopped o = Unit {0}
  IsNextOf Spent o = Unit {0}

  -- the rule holds, the workers know their next children, and there is room for each trace in the log
  pub record IsSound (s : State) (hands : List Hand) (room : ℕ) : Type 0 where
    pub tree : IsTree P
    pub small : length P ≤ 262144
    pub few : length hands ≤ 64
    pub kept : ∥ Kept P (length hands * one_share) s ∥₁
    pub next : (i : ℕ) (h : Hand) → get_elem? hands i ≡ some h → IsNextOf h.stage h.next
    pub room_left : length P ≤ room
