-- What contracts say of a pool and of its seats.
use Rattle.std.specs.Prelude.{◌≡◌, ℕ, ◌<◌, ◌≤◌, List, length, Option}
use Rattle.pool_core.specs.Events.{AtRest}
use Rattle.pool_core.specs.Sums.{times}
use Rattle.pool_core.specs.declared.model.Stage.{Stage}
use Rattle.pool_core.specs.declared.model.Stage.TheVariants as stage
use Rattle.pool_core.specs.declared.work.Work as work
use Rattle.trace_pool.specs.declared.parts.View.{View}
use Rattle.trace_pool.specs.declared.parts.Step.{Step}
use Rattle.trace_pool.specs.declared.pool.Pool.{Pool}
use Rattle.trace_pool.specs.declared.pool.Seat.{Seat}
use Rattle.trace_pool.specs.Slots.{SawNoMore}
use Rattle.trace_pool.specs.Sits.{SitsOn}

-- what the pool was opened on
abbrev pub work_of : {W H D : Type 0} → Pool W H D → W
work_of pool = pool.table.shared.key

-- the pool was opened on this work
abbrev pub IsPoolOf : {W H D : Type 0} → (W → List (Option ℕ)) → Pool W H D → W → Type 0
IsPoolOf parents pool work = (work_of pool ≡ work) × (pool.children ≡ parents work)

module _ {W H D : Type 0} {G : work.Ghosts W H D} where
  -- the work, the worker and its trail, as the seat knows them
  abbrev pub view_of : Seat W H D G → View (Option W)
  view_of seat = seat.seat.me.0

  abbrev pub stage_of : Seat W H D G → Stage
  stage_of seat = seat.stage

  abbrev pub share_of : Seat W H D G → ℕ
  share_of seat = seat.seat.me.0.worker.share

  abbrev pub draws_of : Seat W H D G → ℕ
  draws_of seat = seat.seat.me.0.worker.draws

  -- the traces that the seat has finished, in order
  abbrev pub finished_of : Seat W H D G → List ℕ
  finished_of seat = seat.seat.me.0.worker.finished

  -- what the seat did, and what it saw in each event
  abbrev pub trail_of : Seat W H D G → List Step
  trail_of seat = seat.seat.me.0.trail

  module _ (parents : W → List (Option ℕ)) where
    -- the seat is one of the pool, and what it holds fits its stage
    abbrev pub IsSeatOf : Pool W H D → Seat W H D G → Type 0
    IsSeatOf pool seat = SitsOn parents pool.table.shared.table_id seat.seat.table_id pool.table.shared.key seat.stage seat.seat.me

    -- a seat that has not drawn yet, with at least this share
    abbrev pub IsFresh : Pool W H D → Seat W H D G → ℕ → Type 0
    IsFresh pool seat least = IsSeatOf pool seat × (seat.stage ≡ stage.Idle) × (draws_of seat ≡ 0) × (least ≤ share_of seat)

    -- a seat that has worked: it has its share, and where it is idle, a draw of it found no cell left
    abbrev pub HasWorked : Pool W H D → Seat W H D G → ℕ → Type 0
    HasWorked pool seat share = IsSeatOf pool seat × AtRest seat.stage × (share_of seat ≡ share) × (seat.stage ≡ stage.Idle → SawNoMore (trail_of seat))

  -- the seat has finished every trace of these
  abbrev pub HasFinishedAll : List (Option ℕ) → Seat W H D G → Type 0
  HasFinishedAll P seat = (t : ℕ) → t < length P → 0 < times t (finished_of seat)
