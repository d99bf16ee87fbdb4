-- Procedures put off, and the program that is being built on without their bodies.
use Rattle.std.specs.Prelude.{◌≡◌}
use Rattle.ob_judge.specs.Judged.{Keeps}
use Rattle.ob_judge.specs.Making.{Making}
use Rattle.judged_modules.specs.steps.Frames.{left}
use Rattle.judged_modules.specs.steps.Procedures.{plain_procedure}
use Rattle.later_bodies.specs.Waiting.{Waiting, put_off, put_aside}
use Rattle.check_making.specs.declared.making.Surroundings.{Surroundings}
use Rattle.check_making.specs.declared.scopes.building.Building.{Building}
use Rattle.check_making.specs.scopes.Building.{Represents}
use Rattle.check_procedures.specs.Parts.{JudgedOpen}
use Rattle.check_bodies.specs.declared.body.Body.{Body}
use Rattle.check_bodies.specs.Waits.{Waits}

-- what waits where a procedure's declarations have made this
abbrev pub waiting_of : JudgedOpen → Making → Waiting
waiting_of j m = record { outer = j.outer; number = j.number; heading = j.heading; inner = m }

-- its scope is closed, and its body waits
pub record IsSetAside (r : Surroundings) (s : Building) (b : Body) (j : JudgedOpen) (m : Making) : Type 0 where
  pub represents : Represents r s (left j.outer m)
  pub waits : Waits s.declaring b (waiting_of j m)

-- from this state of the judgement on it was put off
pub record IsPutOff (r : Surroundings) (s : Building) (b : Body) (m : Making) : Type 0 where
  pub waiting : Waiting
  pub keeps : put_off r.source.now (plain_procedure b.tree.now) m ≡ Keeps waiting
  pub represents : Represents r s (put_aside waiting)
  pub waits : Waits s.declaring b waiting
