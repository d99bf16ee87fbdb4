use Rattle.std.proofs.Common.{◌≡◌, ℕ, List, Option, length}
use Rattle.ob_judge.specs.Making.{Making}
use Rattle.ob_judge.specs.Modules.{SoFar}
use Rattle.ob_judge.specs.Scopes.{Entry}
use Rattle.ob_judge.specs.Standards.{predeclared}
use Rattle.later_bodies.specs.Waiting.{Waiting}
use Rattle.bodies_in_scope.specs.Standing.{AllStillStand}
use Rattle.check_making.specs.scopes.Building.{Represents}
use Rattle.check_bodies.specs.Settled.{AllFit, AllWait, AreJudged}
use Rattle.check_bodies.proofs.Filling.{FilledSoFar}
use Rattle.check_bodies.proofs.settling.fill_all.Given as goal

abbrev pub invariant-loop-body : goal.invariant-loop-body
invariant-loop-body l = record {
  declaring : l.state.declaring ≡ l.fn.state.declaring;
  length : length l.state.procedures.items ≡ length l.fn.state.procedures.items;
  fit : AllFit l.state l.body-iterator.rest.items;
  filled : (c : SoFar) (names : List ℕ → Option Entry) (m : Making) (ws : List Waiting) → AreJudged l.round l.fn.state.declaring l.fn.bodies.items l.fn.judged.items
      → Represents l.round l.fn.state m → AllWait l.fn.state.declaring l.fn.bodies.items ws → AllStillStand c predeclared names ws m
      → FilledSoFar l.round l.fn.state.declaring c names m l.fn.bodies.items ws l.state l.body-iterator.rest.items l.rest.rest.items;
}
