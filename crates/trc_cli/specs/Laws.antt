-- When two verdicts come to the same, and when nothing failed.
use Rattle.std.specs.Prelude.{◌≡◌}
use Rattle.trc_answers.specs.declared.causes.Device.{Device}
use Rattle.trc_answers.specs.Verdict.{Verdict, cause_of, files_written, written_by}
use Rattle.trc_answers.specs.Answers.{Failed, Devices}

-- the same cause, the same output, and the same files written, if any
pub record Alike (a b : Verdict) : Type 0 where
  pub cause : cause_of a ≡ cause_of b
  pub written : written_by a ≡ written_by b
  pub files : files_written a ≡ files_written b

-- no count of faults rose
pub record NoneFailed (old new : Devices) : Type 0 where
  pub none : (device : Device) → Failed old new device → ⊥
