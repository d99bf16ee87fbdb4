use Rattle.std.proofs.Common.{ℕ, drop}
use Rattle.ob_syntax.specs.declared.types.RecordType.{out-RecordType}
use Rattle.ob_judge.specs.Shapes.{Layout}
use Rattle.ob_judge.specs.Making.{Making}
use Rattle.table_builder.specs.Growing.{Grows}
use Rattle.check_making.specs.Making.{Makes}
use Rattle.check_making.specs.parameters.Stands.{Stands}
use Rattle.check_making.proofs.parameters.Rounds.{Walking}
use Rattle.check_making.specs.new_types.Layouts.{IsSoFarIn}
use Rattle.check_declared.specs.type_parts.Records.{HasLayout}
use Rattle.check_declared.proofs.type_parts.States.{FieldsStand}
use Rattle.check_declared.proofs.type_parts.WalkLaws.{fields_from}
use Rattle.judged_modules.specs.Agrees.{records_of}
use Rattle.judged_programs.specs.Ranked.{IsAdding}
use Rattle.judged_programs.specs.Tidy.{Tidy}
use Rattle.check_declared.proofs.type_parts.TidyStates.{TidyFields}
use Rattle.check_declared.proofs.type_parts.walk.+walk.Given as goal

abbrev pub invariant-more_field_lists-loop-next : goal.invariant-more_field_lists-loop-next
invariant-more_field_lists-loop-next l = record {
  stands : Stands l.round l.state;
  layout : HasLayout l.state l.layout;
  grows : Grows l.initial.state.types.table l.state.types.table;
  judged : (g : Layout) → IsSoFarIn l.initial.state l.fn.first g → (m : Making) → Makes l.round l.initial.state m
      → Walking (FieldsStand l.round) (fields_from l.round.source.now l.r) (fields_from l.round.source.now l.r (g, m) (out-RecordType l.tree).more.items) (l.state, l.layout) (drop l.next-index (out-RecordType l.tree).more.items);
  legal : (from : ℕ) (b g : Layout) (m : Making) → IsSoFarIn l.initial.state l.fn.first g → Makes l.round l.initial.state m → IsAdding (records_of m) b g → Tidy from m
      → Walking (TidyFields l.round from b l.initial.state) (fields_from l.round.source.now l.r) (fields_from l.round.source.now l.r (g, m) (out-RecordType l.tree).more.items) (l.state, l.layout) (drop l.next-index (out-RecordType l.tree).more.items);
}
