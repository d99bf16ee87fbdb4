-- A program that is being built, in the middle of declarations.
use Rattle.std.specs.Prelude.{◌≤◌, length, Result}
use Rattle.ob_judge.specs.Making.{Making, Part}
use Rattle.ob_judge.specs.Modules.{SoFar}
use Rattle.judged_outlines.specs.Upright.{Upright}
use Rattle.check_types.specs.steps.Answers.{Answers}
use Rattle.check_types.specs.declared.steps.fault.CheckFault.{CheckFault}
use Rattle.check_types.specs.declared.table.TypeTable.{TypeTable}
use Rattle.check_making.specs.declared.making.Surroundings.{Surroundings}
use Rattle.check_making.specs.Making.{IsSettled}
use Rattle.check_making.specs.declared.scopes.building.Building.{Building}
use Rattle.check_making.specs.scopes.Building.{Represents}
use Rattle.check_making.specs.scopes.Built.{Built}

-- it is settled, and stands for what the judgement has made behind the modules so far
pub record IsUnderWay (r : Surroundings) (s : Building) : Type 0 where
  pub settled : IsSettled r s.declaring
  pub so_far : SoFar
  pub making : Making
  pub represents : Represents r s making
  pub upright : Upright so_far making

-- all procedure types have a number below the greatest
pub record HasFewSignatures (t : TypeTable) : Type 0 where
  pub few : length t.types.signatures ≤ 4294967295

-- this answer is that part's, from each upright state of the judgement that the program stood for
abbrev pub BuildsUpright : Surroundings → (old new : Building) → Part (Unit {0}) → Result (Unit {0}) CheckFault → Type 0
BuildsUpright r old new part result = (c : SoFar) (m : Making) → Represents r old m → Upright c m → Answers (Built r new) (part m) result
