use Rattle.std.proofs.Common.{map, drop}
use Rattle.ob_judge.specs.Making.{Making}
use Rattle.check_types.proofs.steps.Answering.{Judging}
use Rattle.legal_tables.specs.Promised.{HasLegalTypes}
use Rattle.table_builder.specs.Growing.{Grows}
use Rattle.check_making.specs.Making.{forward_of, Makes}
use Rattle.check_declared.proofs.Parts.{StateMakes}
use Rattle.check_making.specs.parameters.Stands.{Stands}
use Rattle.check_declared.proofs.type_parts.Bases.{IsAsBefore, bases_from}
use Rattle.check_declared.proofs.type_parts.forward.forward_bases.Given as goal

abbrev pub invariant-loop-i : goal.invariant-loop-i
invariant-loop-i l = record {
  stands : Stands l.round l.state;
  grows : Grows l.initial.state.types.table l.state.types.table;
  legal : HasLegalTypes l.initial.state.types.table → HasLegalTypes l.state.types.table;
  same : IsAsBefore l.initial.state l.state;
  judged : (m : Making) → Makes l.round l.initial.state m
      → Judging (StateMakes l.round) (bases_from l.round) (bases_from l.round (tt, m) (map forward_of l.initial.state.forward.items)) l.state (drop l.i (map forward_of l.initial.state.forward.items));
}
