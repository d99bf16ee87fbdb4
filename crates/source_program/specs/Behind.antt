-- The state behind some of the modules, in code.
use Rattle.std.specs.Prelude.{◌≡◌, ℕ, List, length, take}
use Rattle.ob_judge.specs.Judged.{Keeps}
use Rattle.ob_judge.specs.Modules.{SoFar, Parsed}
use Rattle.judged_programs.specs.ProgramOf.{AreRead}
use Rattle.check_modules.specs.declared.programs.modules.Modules.{Modules}
use Rattle.check_modules.specs.programs.Modules.{HasSettledModules, StandsForModules}
use Rattle.source_program.specs.Texts.{AreParsed, accepted}

-- so many modules were read and accepted, and the state stands for what is known behind them
pub record IsBehind (texts : List (List ℕ)) (number : ℕ) (s : Modules) : Type 0 where
  pub settled : HasSettledModules texts s
  pub count : length s.known.items ≡ number
  pub before : List Parsed
  pub are_parsed : AreParsed (take number texts) before
  pub are_read : AreRead before
  pub so_far : SoFar
  pub accepts : accepted before ≡ Keeps so_far
  pub stands : StandsForModules texts s so_far
