use Rattle.std.proofs.Common.{◌≤◌, ℕ, List, Option, length, take}
use Rattle.ob_judge.specs.Making.{Making}
use Rattle.ob_judge.specs.Modules.{SoFar}
use Rattle.ob_judge.specs.Scopes.{Entry}
use Rattle.ob_judge.specs.Standards.{predeclared}
use Rattle.legal_tables.specs.Promised.{HasLegalTypes}
use Rattle.later_bodies.specs.Walked.{one_by_one}
use Rattle.bodies_in_scope.specs.Standing.{Between}
use Rattle.check_making.specs.scopes.Building.{IsLater, Represents}
use Rattle.check_bodies.specs.Settled.{AllFit}
use Rattle.check_bodies.specs.Walked.{IsBetween, Walked}
use Rattle.check_bodies.proofs.turns.put_off_all.Given as goal

abbrev pub invariant-loop-next : goal.invariant-loop-next
invariant-loop-next l = record {
  between : IsBetween l.round l.state;
  later : IsLater l.fn.state.declaring.types.table l.state.declaring.types.table;
  fit : AllFit l.state l.bodies.items;
  many : length l.bodies.items ≤ l.next-index;
  walked : (c : SoFar) (m : Making) (names : List ℕ → Option Entry) → Represents l.round l.fn.state m → Between c predeclared names m
      → Walked l.round c m (one_by_one (take l.next-index l.trees)) l.state l.bodies.items;
  legal : (c : SoFar) (m : Making) (names : List ℕ → Option Entry) → Represents l.round l.fn.state m → Between c predeclared names m
      → HasLegalTypes l.fn.state.declaring.types.table → HasLegalTypes l.state.declaring.types.table;
}
