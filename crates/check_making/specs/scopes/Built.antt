-- What a part of the judgement leaves in a program that is being built.
use Rattle.std.specs.Prelude.{◌≡◌, ℕ, Result}
use Rattle.ob_judge.specs.Making.{Making, Part}
use Rattle.check_types.specs.steps.Answers.{Answers}
use Rattle.check_types.specs.declared.steps.fault.CheckFault.{CheckFault}
use Rattle.check_making.specs.declared.making.Surroundings.{Surroundings}
use Rattle.check_making.specs.declared.scopes.building.Building.{Building}
use Rattle.check_making.specs.scopes.Building.{Represents}

-- the program stands for what it leaves
pub record Built (r : Surroundings) (s : Building) (b : Unit {0}) (left : Unit {0} × Making) : Type 0 where
  pub represents : Represents r s left.1

-- and the value stands for what it gives
pub record BuiltAs {A B : Type 0} (R : B → A → Type 0) (r : Surroundings) (s : Building) (b : B) (left : A × Making) : Type 0 where
  pub value : R b left.0
  pub represents : Represents r s left.1

-- this answer is that part's, from each state of the judgement that the program stood for
abbrev pub Builds : Surroundings → (old new : Building) → Part (Unit {0}) → Result (Unit {0}) CheckFault → Type 0
Builds r old new part result = (m : Making) → Represents r old m → Answers (Built r new) (part m) result

abbrev pub BuildsAs : {A B : Type 0} → (B → A → Type 0) → Surroundings → (old new : Building) → Part A → Result B CheckFault → Type 0
BuildsAs R r old new part result = (m : Making) → Represents r old m → Answers (BuiltAs R r new) (part m) result

abbrev pub IsNumber : ℕ → ℕ → Type 0
IsNumber b n = b ≡ n
