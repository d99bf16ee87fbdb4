-- Scopes whose procedures are below a number.
use Rattle.std.specs.Prelude.{◌≡◌, ◌<◌, ℕ, List, Bool, Option, Some}
use Rattle.ob_judge.specs.Shapes.{Shape}
use Rattle.ob_judge.specs.Scopes.{Object, AProcedure, Entry}

-- all procedures of a scope have numbers below this
pub record AreBelow (n : ℕ) (names : List ℕ → Option Entry) : Type 0 where
  pub below : (q : List ℕ) (x : Entry) (f : ℕ) (s : Shape) (is_local : Bool) → names q ≡ Some x → x.object ≡ AProcedure f s is_local → f < n

-- a declaration of procedure f
pub record IsOfProcedure (f : ℕ) (e : Entry) : Type 0 where
  pub shape : Shape
  pub is_local : Bool
  pub object : e.object ≡ AProcedure f shape is_local

-- what is no procedure
abbrev pub IsNoProcedure : Object → Type 0
IsNoProcedure (AProcedure f s is_local) = ⊥
IsNoProcedure o = Unit {0}
