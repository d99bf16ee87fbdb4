-- What is kept from module to module.
use Rattle.std.specs.Prelude.{◌≡◌, ◌<◌, ℕ, suc, List, [], ◌∷◌, map, length, true, if◌then◌else◌, Some, None, slice_get}
use Rattle.ob_judge.specs.Shapes.{Nothing}
use Rattle.ob_judge.specs.Image.{Procedure}
use Rattle.ob_judge.specs.Image as Tree
use Rattle.ob_judge.specs.Scopes.{KnownModule}
use Rattle.ob_judge.specs.Modules.{SoFar}
use Rattle.judged_modules.specs.Lines.{AllLines}
use Rattle.judged_modules.specs.Lists.{Each}
use Rattle.judged_programs.specs.Ranked.{IsRanked}
use Rattle.judged_programs.specs.Tidy.{OffersKnown, AreWhole, IsLegalProcedure}

-- a module's body is marked as one, and has no parameters, no variables and no result
pub record IsBare (q : Procedure) : Type 0 where
  pub marked : q.is_body ≡ true
  pub formals : q.formals ≡ []
  pub locals : q.locals ≡ []
  pub result : q.result ≡ Nothing
  pub answer : q.answer ≡ None

-- the numbers of the bodies among these procedures, the first of which has this number
abbrev pub bodies_of : ℕ → List Procedure → List ℕ
bodies_of f [] = []
bodies_of f (q ∷ qs) = if q.is_body then (f ∷ bodies_of (suc f) qs) else bodies_of (suc f) qs

-- a module's body is among the procedures
pub record HasBody (procedures : List Procedure) (m : Tree.Module) : Type 0 where
  pub body : Procedure
  pub there : slice_get procedures m.body ≡ Some body
  pub bare : IsBare body

pub record TidySoFar (c : SoFar) : Type 0 where
  pub many : length c.program_modules ≡ length c.modules
  pub members : (n : ℕ) (m : KnownModule) → slice_get c.modules n ≡ Some m → OffersKnown c.known.records m
  pub lines : AllLines c.known.records
  pub ranked : IsRanked c.known.records
  pub targets : (n r : ℕ) → slice_get c.known.bases n ≡ Some (Some r) → r < length c.known.records
  pub legal : (f : ℕ) (q : Procedure) → slice_get c.procedures f ≡ Some q → IsLegalProcedure q
  pub variables : Each (λ m. AreWhole m.variables) c.program_modules
  pub bodies : Each (HasBody c.procedures) c.program_modules
  pub order : bodies_of 0 c.procedures ≡ map (λ m. m.body) c.program_modules
