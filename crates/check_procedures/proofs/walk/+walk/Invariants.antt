use Rattle.std.proofs.Common.{◌≤◌, length, drop}
use Rattle.ob_syntax.specs.declared.declarations.Decls.{out-Decls}
use Rattle.ob_judge.specs.Making.{Making}
use Rattle.ob_judge.specs.Modules.{SoFar}
use Rattle.ob_judge.specs.Declarations.{procedures_part}
use Rattle.judged_outlines.specs.Upright.{Upright}
use Rattle.judged_modules.specs.steps.Procedures.{plain_each_procedure}
use Rattle.check_making.specs.Making.{IsSettled}
use Rattle.check_making.specs.scopes.Building.{IsLater, Represents}
use Rattle.check_procedures.specs.UnderWay.{IsUnderWay}
use Rattle.check_procedures.proofs.Rounds.{StandsAt}
use Rattle.check_procedures.proofs.walk.+walk.Given as goal

abbrev pub invariant-procedures-loop-next : goal.invariant-procedures-loop-next
invariant-procedures-loop-next l = record {
  settled : IsSettled l.round l.state.declaring;
  under_way : IsUnderWay l.round l.state;
  later : IsLater l.initial.state.declaring.types.table l.state.declaring.types.table;
  more : length l.initial.state.procedures.items ≤ length l.state.procedures.items;
  at : (c : SoFar) (m : Making) → Represents l.round l.initial.state m → Upright c m
      → StandsAt l.round c (procedures_part l.round.source.now (plain_each_procedure (out-Decls l.tree).procedures.items) m) l.initial.state.declaring.types.table l.state (drop l.next-index (out-Decls l.tree).procedures.items);
}
