-- What a procedure, with its body or without, makes in the scope round it: one name more.
use Rattle.std.specs.Prelude.{◌≡◌, ◌≤◌, ℕ, suc, List, [], ◌∷◌, ◌++◌, length, false, Option, Some}
use Rattle.ob_judge.specs.Scopes.{Entry, Source, declare, spelled}
use Rattle.ob_judge.specs.Making.{Making, is_among}
use Rattle.later_bodies.specs.Waiting.{Waiting, put_aside}
use Rattle.judged_modules.specs.steps.Procedures.{OneProcedure}
use Rattle.bodies_in_scope.specs.Below.{IsOfProcedure}

-- the name by which a procedure is known
abbrev pub name_of : Source → OneProcedure → List ℕ
name_of p q = spelled p q.name.name

-- from s to t in a scope of these names, within those round it, comes a procedure of this name
pub record OneMore (name : List ℕ) (round : List (List ℕ → Option Entry)) (names : List ℕ → Option Entry) (s t : Making) : Type 0 where
  pub entry : Entry
  pub of_procedure : IsOfProcedure (length s.procedures) entry
  pub world : t.world ≡ record s.world { known = t.world.known; levels = round ++ declare name entry names ∷ [] }
  pub unique : is_among name s.standing ≡ false
  pub standing : t.standing ≡ name ∷ s.standing
  pub more : suc (length s.procedures) ≤ length t.procedures

-- and where it is put off, its own scope stands in those round it, in which it has its name
pub record PutOff (name : List ℕ) (round : List (List ℕ → Option Entry)) (names : List ℕ → Option Entry) (s : Making) (w : Waiting) : Type 0 where
  pub number : w.number ≡ length s.procedures
  pub entry : Entry
  pub of_procedure : IsOfProcedure (length s.procedures) entry
  pub own : List ℕ → Option Entry
  pub inside : w.inner.world ≡ record s.world { known = w.inner.world.known; levels = round ++ declare name entry names ∷ own ∷ []; procedure = Some w.number }
  pub outside : (put_aside w).world ≡ record s.world { known = w.inner.world.known; levels = round ++ declare name entry names ∷ [] }
  pub unique : is_among name s.standing ≡ false
  pub standing : (put_aside w).standing ≡ name ∷ s.standing
  pub more : suc (length s.procedures) ≤ length w.inner.procedures
