-- The order in which moves are made one after the other. Moves from a place to itself are dropped. As long as moves are left, the first
-- whose destination is no other's source is made. Where there is none, the first one's destination is saved to X16, which replaces it
-- as a source, and then the first whose destination is no other's source is made.
use Rattle.std.specs.Prelude.{ℕ, zero, suc, Bool, true, false, not, cond, List, [], ◌∷◌, map, filter, length, Option, Some, None}
use Rattle.lir_core.specs.declared.places.Place.{Place}
use Rattle.lir_core.specs.declared.places.Move.{Move}
use Rattle.lir_core.specs.Spots.{Spot, saved, same, spot}
use Rattle.parallel_move.specs.declared.step.Step.{Step}
use Rattle.parallel_move.specs.declared.step.Step.TheVariants.{Copy, Save, Restore}

-- a move that is left: from a place, or from X16
pub record Pending : Type 0 where
  pub to : Place
  pub from : Option Place

abbrev pub from_spot : Option Place → Spot
from_spot None = saved
from_spot (Some p) = spot p

-- the step that makes a move
abbrev pub step_from : Place → Option Place → Step
step_from to None = Restore to
step_from to (Some from) = Copy to from

abbrev pub step_of : Pending → Step
step_of m = step_from m.to m.from

-- moves but those from a place to itself
abbrev pub is_moving : Move → Bool
is_moving m = not (same (spot m.to) (spot m.from))

abbrev pub pending : Move → Pending
pending m = record { to = m.to; from = Some m.from }

-- the step that makes a move on its own
abbrev pub copied : Move → Step
copied m = Copy m.to m.from

abbrev pub moving : List Move → List Pending
moving ms = map pending (filter is_moving ms)

-- a spot is a move's source
abbrev pub is_source : List Pending → Spot → Bool
is_source [] p = false
is_source (m ∷ ms) p = cond (same (from_spot m.from) p) true (is_source ms p)

-- a move, and the others
pub record Picked : Type 0 where
  pub move : Pending
  pub rest : List Pending

abbrev pub behind : Pending → Option Picked → Option Picked
behind m None = None
behind m (Some x) = Some (record { move = x.move; rest = m ∷ x.rest })

-- the first of some moves whose destination is the source of none of all; it isn't its own, since it moves
abbrev pub pick : List Pending → List Pending → Option Picked
pick all [] = None
pick all (m ∷ ms) = cond (is_source all (spot m.to)) (behind m (pick all ms)) (Some (record { move = m; rest = ms }))

-- X16 in place of a source
abbrev pub instead : Place → Pending → Pending
instead p m = record { to = m.to; from = cond (same (from_spot m.from) (spot p)) None m.from }

abbrev pub make : Option Picked → (List Pending → List Step) → List Step
make None on = []
make (Some x) on = step_of x.move ∷ on x.rest

-- one move is made, perhaps behind a save
abbrev pub round : Option Picked → Pending → List Pending → (List Pending → List Step) → List Step
round None m ms on = Save m.to ∷ make (pick (map (instead m.to) (m ∷ ms)) (map (instead m.to) (m ∷ ms))) on
round (Some x) m ms on = make (Some x) on

-- by n rounds
abbrev pub ordered : ℕ → List Pending → List Step
ordered zero ms = []
ordered (suc n) [] = []
ordered (suc n) (m ∷ ms) = round (pick (m ∷ ms) (m ∷ ms)) m ms (ordered n)

-- the steps of some moves: a round for each
abbrev pub order_of : List Move → List Step
order_of ms = ordered (length (moving ms)) (moving ms)
