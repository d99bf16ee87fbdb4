-- Procedures put off one after the other.
use Rattle.std.specs.Prelude.{◌≡◌, ◌<◌, ℕ, List, [], ◌∷◌, length}
use Rattle.ob_syntax.specs.declared.declarations.ProcedureDecl.{ProcedureDecl, ProcedureDecl'}
use Rattle.ob_judge.specs.Judged.{Keeps}
use Rattle.ob_judge.specs.Scopes.{Source}
use Rattle.ob_judge.specs.Making.{Making}
use Rattle.ob_judge.specs.Declarations.{each}
use Rattle.judged_modules.specs.steps.Procedures.{OneProcedure, plain_procedure}
use Rattle.judged_modules.specs.steps.Steps.{completed, procedure_part}
use Rattle.later_bodies.specs.Waiting.{Waiting, with_procedures, Came, filled}

-- a procedure that waited came to this
pub record CameTo (p : Source) (w : OneProcedure × Waiting) (x : Came) : Type 0 where
  pub number : x.number ≡ w.1.number
  pub judged : completed p w.0 w.1.heading w.1.inner ≡ Keeps x.procedure

-- all that waited came to these, one for one
abbrev pub AllCameTo : Source → List (OneProcedure × Waiting) → List Came → Type 0
AllCameTo p [] [] = Unit {0}
AllCameTo p [] (x ∷ xs) = ⊥
AllCameTo p (w ∷ ws) [] = ⊥
AllCameTo p (w ∷ ws) (x ∷ xs) = CameTo p w x × AllCameTo p ws xs

-- all that wait have a number below this
abbrev pub AllBelow : ℕ → List (OneProcedure × Waiting) → Type 0
AllBelow n [] = Unit {0}
AllBelow n (w ∷ ws) = (w.1.number < n) × AllBelow n ws

-- from the first state on, these procedures were put off or judged, one after the other, these wait, and this is what was made: whatever
-- those that wait come to, the procedures are judged to what was made, in which that is filled in
pub record PutSoFar (p : Source) (first : Making) (qs : List OneProcedure) (ws : List (OneProcedure × Waiting)) (s : Making) : Type 0 where
  pub numbers : AllBelow (length s.procedures) ws
  pub judged : (xs : List Came) → AllCameTo p ws xs → each (procedure_part p) qs first ≡ Keeps (tt, with_procedures (filled s.procedures xs) s)

-- procedures one by one, as they stand
abbrev pub one_by_one : List ProcedureDecl → List OneProcedure
one_by_one [] = []
one_by_one (ProcedureDecl' q semicolon ∷ rest) = plain_procedure q ∷ one_by_one rest
