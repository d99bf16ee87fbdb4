-- States between the procedures of a module, and what a procedure that waits sees there.
use Rattle.std.specs.Prelude.{◌≡◌, ◌≤◌, ℕ, List, [], ◌∷◌, length, false, Option, Some, None}
use Rattle.ob_judge.specs.Scopes.{Entry}
use Rattle.ob_judge.specs.Making.{Making, is_among}
use Rattle.ob_judge.specs.Modules.{SoFar}
use Rattle.judged_modules.specs.Lists.{Each}
use Rattle.judged_outlines.specs.Upright.{Upright}
use Rattle.later_types.specs.Later.{IsRooted, Rooted, StaysKnown}
use Rattle.later_bodies.specs.Waiting.{Waiting, put_aside}
use Rattle.check_types.specs.names.Before.{names_before}
use Rattle.bodies_in_scope.specs.Below.{AreBelow}

-- the names of a module: its procedures are below this number, and all of them stand
pub record AreNamed (n : ℕ) (standing : List (List ℕ)) (names : List ℕ → Option Entry) : Type 0 where
  pub below : AreBelow n names
  pub others : (q : List ℕ) → is_among q standing ≡ false → names q ≡ None

-- where no procedure is open: the predeclared names, and the module's
pub record Between (c : SoFar) (outermost names : List ℕ → Option Entry) (s : Making) : Type 0 where
  pub levels : s.world.levels ≡ outermost ∷ names ∷ []
  pub named : AreNamed (length s.procedures) s.standing names
  pub constant : s.world.constant ≡ false
  pub narrowed : s.world.narrowed ≡ []
  pub upright : Upright c s
  pub rooted : Rooted s

-- what is known of a procedure that was put off: of its own scope, and of the one round it when it is set aside
pub record IsWell (c : SoFar) (s : Making) (w : Waiting) : Type 0 where
  pub upright : Upright c w.inner
  pub rooted : Rooted w.inner
  pub heading : IsRooted w.inner w.heading.1
  pub upright_round : Upright c (put_aside w)
  pub rooted_round : Rooted (put_aside w)
  pub known : StaysKnown s.world.known w.inner.world.known

-- a procedure that waits stands as before, seen from a later state in which the module has these names: it sees those of them
-- that aren't of later procedures, and its own
pub record StillStands (c : SoFar) (outermost names : List ℕ → Option Entry) (w : Waiting) (s : Making) : Type 0 where
  pub own : List ℕ → Option Entry
  pub inside : w.inner.world.levels ≡ outermost ∷ names_before (length w.inner.procedures) names ∷ own ∷ []
  pub levels : s.world.levels ≡ outermost ∷ names ∷ []
  pub known : StaysKnown w.inner.world.known s.world.known
  pub modules : w.inner.world.modules ≡ s.world.modules
  pub module_number : w.inner.world.module_number ≡ s.world.module_number
  pub procedure : w.inner.world.procedure ≡ Some w.number
  pub constant : w.inner.world.constant ≡ false
  pub narrowed : w.inner.world.narrowed ≡ []
  pub fewer : length w.inner.procedures ≤ length s.procedures
  pub upright : Upright c w.inner
  pub rooted : Rooted w.inner
  pub heading : IsRooted w.inner w.heading.1

-- all that wait
abbrev pub AllStillStand : (c : SoFar) (outermost names : List ℕ → Option Entry) → List Waiting → Making → Type 0
AllStillStand c outermost names ws s = Each (λ w. StillStands c outermost names w s) ws
