-- Procedures of a module, judged or put off one after the other.
use Rattle.std.specs.Prelude.{◌≡◌, ℕ, List, Option}
use Rattle.ob_judge.specs.Judged.{Judged, Keeps}
use Rattle.ob_judge.specs.Making.{Making}
use Rattle.ob_judge.specs.Modules.{SoFar}
use Rattle.ob_judge.specs.Scopes.{Entry}
use Rattle.ob_judge.specs.Standards.{predeclared}
use Rattle.judged_modules.specs.steps.Procedures.{OneProcedure}
use Rattle.later_bodies.specs.Waiting.{Waiting}
use Rattle.later_bodies.specs.Walked.{PutSoFar}
use Rattle.bodies_in_scope.specs.Standing.{Between, AllStillStand}
use Rattle.check_making.specs.declared.making.Surroundings.{Surroundings}
use Rattle.check_making.specs.Making.{IsSettled}
use Rattle.check_making.specs.declared.scopes.building.Building.{Building}
use Rattle.check_making.specs.scopes.Building.{Represents}
use Rattle.check_bodies.specs.declared.body.Body.{Body}
use Rattle.check_bodies.specs.Settled.{AllWait, with_trees}

-- a program that is being built, where no procedure of the module is open
pub record IsBetween (r : Surroundings) (s : Building) : Type 0 where
  pub settled : IsSettled r s.declaring
  pub so_far : SoFar
  pub making : Making
  pub names : List ℕ → Option Entry
  pub represents : Represents r s making
  pub between : Between so_far predeclared names making

-- from the first state on these procedures were judged or put off, and these bodies wait
pub record Walked (r : Surroundings) (c : SoFar) (first : Making) (qs : List OneProcedure) (s : Building) (bs : List Body) : Type 0 where
  pub making : Making
  pub names : List ℕ → Option Entry
  pub waiting : List Waiting
  pub represents : Represents r s making
  pub between : Between c predeclared names making
  pub waits : AllWait s.declaring bs waiting
  pub stands : AllStillStand c predeclared names waiting making
  pub so_far : PutSoFar r.source.now first qs (with_trees bs waiting) making

-- the judgement comes to a state between procedures, for which the program stands
pub record ComesTo (r : Surroundings) (s : Building) (c : SoFar) (judged : Judged (Unit {0} × Making)) : Type 0 where
  pub making : Making
  pub keeps : judged ≡ Keeps (tt, making)
  pub names : List ℕ → Option Entry
  pub represents : Represents r s making
  pub between : Between c predeclared names making
