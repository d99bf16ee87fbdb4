-- States of the judgement from which images come that are outlined alike by all later pointer types.
use Rattle.std.specs.Prelude.{◌≡◌, ◌≤◌, suc, length}
use Rattle.ob_judge.specs.Making.{Making}
use Rattle.ob_judge.specs.Modules.{SoFar, first_making}
use Rattle.judged_modules.specs.Agrees.{records_of, bases_of}
use Rattle.judged_programs.specs.Complete.{CompleteStay}
use Rattle.judged_programs.specs.Tidy.{Tidy}
use Rattle.judged_programs.specs.TidyModules.{TidySoFar}
use Rattle.judged_outlines.specs.Among.{WorldAmong}

-- what is made is tidy, and all that is in scope names pointer types that there are
pub record Upright (c : SoFar) (s : Making) : Type 0 where
  pub tidy : Tidy (length c.procedures) s
  pub among : WorldAmong (length (bases_of s)) s.world

-- between modules
pub record UprightSoFar (c : SoFar) : Type 0 where
  pub tidy : TidySoFar c
  pub among : WorldAmong (length c.known.bases) (first_making c).world

-- a state in one scope more, opened in an earlier state
pub record MadeWithin (s t : Making) : Type 0 where
  pub depth : length t.world.levels ≡ suc (length s.world.levels)
  pub module_number : t.world.module_number ≡ s.world.module_number
  pub complete : CompleteStay (records_of s) (records_of t)
  pub more : length (bases_of s) ≤ length (bases_of t)
