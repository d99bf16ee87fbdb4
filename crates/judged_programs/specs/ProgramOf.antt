-- Programs that the judgement gives of modules, as code holds them.
use Rattle.std.specs.Prelude.{◌≡◌, ◌<◌, ℕ, List, [], ◌∷◌, length, Some, slice_get}
use Rattle.ob_types.specs.declared.program.Procedure.{Procedure}
use Rattle.ob_types.specs.declared.program.Program.{Program}
use Rattle.ob_judge.specs.Image.{Program as ProgramImage}
use Rattle.ob_judge.specs.Modules.{Parsed, Legal, checked}
use Rattle.judged_tree.specs.Plain.{plain_program}
use Rattle.judged_tree.specs.Outline.{outlined_program}
use Rattle.judged_well.specs.Standing.{IsRead}

-- the judgement accepts these modules, and the program is what it gives
pub record IsProgramOf (ms : List Parsed) (p : Program) : Type 0 where
  pub image : ProgramImage
  pub legal : checked ms ≡ Legal image
  -- the bytes of the modules' texts
  pub sources : List (List ℕ)
  pub same : plain_program sources p ≡ outlined_program image

-- each module's text was read
abbrev pub AreRead : List Parsed → Type 0
AreRead [] = Unit {0}
AreRead (m ∷ ms) = IsRead m.source × AreRead ms

-- the result of each procedure has a number in the table, also where there is none: that is a type too
pub record HasResults (p : Program) : Type 0 where
  pub each : (f : ℕ) (q : Procedure) → slice_get p.procedures f ≡ Some q → q.result < length p.types.kinds
