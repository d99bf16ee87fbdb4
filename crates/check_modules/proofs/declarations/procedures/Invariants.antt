use Rattle.std.specs.Vec.Iter.{into_iter_items}
use Rattle.ob_judge.specs.Making.{Making}
use Rattle.ob_judge.specs.Modules.{SoFar}
use Rattle.ob_judge.specs.Declarations.{procedures_part}
use Rattle.judged_outlines.specs.Upright.{Upright}
use Rattle.judged_modules.specs.steps.Procedures.{plain_each_procedure}
use Rattle.check_making.specs.scopes.Building.{IsLater, Represents}
use Rattle.check_procedures.specs.UnderWay.{IsUnderWay}
use Rattle.check_procedures.proofs.Rounds.{StandsAt}
use Rattle.check_modules.proofs.declarations.procedures.Given as goal

abbrev pub invariant-loop-next : goal.invariant-loop-next
invariant-loop-next l = record {
  under_way : IsUnderWay l.round l.state;
  later : IsLater l.initial.state.declaring.types.table l.state.declaring.types.table;
  at : (c : SoFar) (m : Making) → Represents l.round l.initial.state m → Upright c m
      → StandsAt l.round c (procedures_part l.round.source.now (plain_each_procedure l.fn.each.items) m) l.initial.state.declaring.types.table l.state (into_iter_items l.next-iterator);
}
