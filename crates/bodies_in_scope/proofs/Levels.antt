-- The scopes that are open, after declarations, after a procedure and where one was put off.
use Rattle.std.proofs.Common.{◌≡◌, ℕ, suc, List, [], ◌∷◌, ◌++◌, length, Option, refl, ap, arith}
use Rattle.ob_syntax.specs.Syntax as S
use Rattle.ob_judge.specs.Judged.{Keeps}
use Rattle.ob_judge.specs.Scopes.{Entry, Source, World, declare}
use Rattle.ob_judge.specs.Making.{Making}
use Rattle.ob_judge.specs.Declarations.{decls_part, procedures_part}
use Rattle.judged_modules.proofs.Keeping.{given}
use Rattle.judged_modules.specs.steps.Procedures.{OneProcedure}
use Rattle.judged_modules.specs.steps.Steps.{procedure_part}
use Rattle.later_bodies.specs.Waiting.{Waiting, put_off, put_aside}
use Rattle.bodies_in_scope.specs.Around.{name_of, OneMore, PutOff}
use Rattle.bodies_in_scope.specs.Below.{AreBelow}
use Rattle.bodies_in_scope.proofs.Names.{more_below, procedure_below}
use Rattle.bodies_in_scope.proofs.Stays.{Around}
use Rattle.bodies_in_scope.proofs.Declared.{Any, a_decls, a_procedures, procedure_comes, procedure_put_off}

-- the scopes round the innermost are these
abbrev pub IsWithin : List (List ℕ → Option Entry) → Making → Type 0
IsWithin round s = (names : List ℕ → Option Entry) × (s.world.levels ≡ round ++ names ∷ [])

module _ (p : Source) (round : List (List ℕ → Option Entry)) (names : List ℕ → Option Entry) where
  from : (s : Making) → s.world.levels ≡ round ++ names ∷ [] → Around (Any p) round s.world s.standing s.world
  from s levels = record { own = names; world = ap {B = World} (λ ls. record s.world { levels = ls }) levels; holds = tt }

  -- declarations leave them
  pub decls_within : (d : S.Decls) (s t : Making) → s.world.levels ≡ round ++ names ∷ [] → decls_part p d s ≡ Keeps (tt, t) → IsWithin round t
  decls_within d s t levels is = let h = given (tt, t) (a_decls p d round s.world s (from s levels)) is in (h.own, ap (λ w. w.levels) h.world)

  pub procedures_within : (x : S.Procedures) (s t : Making) → s.world.levels ≡ round ++ names ∷ [] → procedures_part p x s ≡ Keeps (tt, t) → IsWithin round t
  procedures_within x s t levels is = let h = given (tt, t) (a_procedures p x round s.world s (from s levels)) is in (h.own, ap (λ w. w.levels) h.world)

  -- a procedure is one name more
  pub procedure_more : (q : OneProcedure) (s t : Making) → s.world.levels ≡ round ++ names ∷ [] → procedure_part p q s ≡ Keeps (tt, t) → OneMore (name_of p q) round names s t
  procedure_more q s t levels is = given (tt, t) (procedure_comes p q round names s levels) is

  pub put_off_more : (q : OneProcedure) (s : Making) (w : Waiting) → s.world.levels ≡ round ++ names ∷ [] → put_off p q s ≡ Keeps w → PutOff (name_of p q) round names s w
  put_off_more q s w levels is = given w (procedure_put_off p q round names s levels) is

module _ (name : List ℕ) (round : List (List ℕ → Option Entry)) (names : List ℕ → Option Entry) (s : Making) where
  pub levels_after : (t : Making) (h : OneMore name round names s t) → t.world.levels ≡ round ++ declare name h.entry names ∷ []
  levels_after t h = ap (λ w. w.levels) h.world

  pub levels_inside : (w : Waiting) (h : PutOff name round names s w) → w.inner.world.levels ≡ round ++ declare name h.entry names ∷ h.own ∷ []
  levels_inside w h = ap (λ v. v.levels) h.inside

  pub levels_aside : (w : Waiting) (h : PutOff name round names s w) → (put_aside w).world.levels ≡ round ++ declare name h.entry names ∷ []
  levels_aside w h = ap (λ v. v.levels) h.outside

  -- and all procedures of the scope are below the number of those there are
  pub below_after : (t : Making) (h : OneMore name round names s t) → AreBelow (length s.procedures) names → AreBelow (length t.procedures) (declare name h.entry names)
  below_after t h below = more_below (suc (length s.procedures)) (length t.procedures) (declare name h.entry names) h.more (procedure_below (length s.procedures) (length s.procedures) name h.entry names (omega arith) h.of_procedure below)

  pub below_aside : (w : Waiting) (h : PutOff name round names s w) → AreBelow (length s.procedures) names → AreBelow (length (put_aside w).procedures) (declare name h.entry names)
  below_aside w h below = more_below (suc (length s.procedures)) (length w.inner.procedures) (declare name h.entry names) h.more (procedure_below (length s.procedures) (length s.procedures) name h.entry names (omega arith) h.of_procedure below)

-- what is known of types in a procedure's scope is known when it is set aside
pub known_aside : (w : Waiting) → (put_aside w).world.known ≡ w.inner.world.known
known_aside w = refl
