-- A settled state that stands for a state of the judgement.
use Rattle.ob_judge.specs.Making.{Making}
use Rattle.check_making.specs.declared.making.Declaring.{Declaring}
use Rattle.check_making.specs.declared.making.Surroundings.{Surroundings}
use Rattle.check_making.specs.Making.{Makes, IsSettled}

-- it is settled, and this is what the judgement has made
pub record Stands (r : Surroundings) (s : Declaring) : Type 0 where
  pub settled : IsSettled r s
  pub making : Making
  pub makes : Makes r s making
