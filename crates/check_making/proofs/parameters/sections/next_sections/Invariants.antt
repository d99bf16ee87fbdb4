use Rattle.std.proofs.Common.{◌≡◌, drop}
use Rattle.ob_judge.specs.Making.{Making}
use Rattle.ob_judge.specs.Parameters.{Listed}
use Rattle.table_builder.specs.Growing.{Grows}
use Rattle.legal_tables.specs.Promised.{HasLegalTypes}
use Rattle.check_making.specs.Making.{Makes}
use Rattle.check_making.specs.parameters.Listed.{IsListedIn}
use Rattle.check_making.specs.parameters.Stands.{Stands}
use Rattle.check_making.proofs.parameters.Rounds.{Walking}
use Rattle.check_making.proofs.parameters.OneMore.{StandsFor}
use Rattle.check_making.proofs.parameters.ManySections.{sections_from}
use Rattle.check_making.proofs.parameters.sections.next_sections.Given as goal

abbrev pub invariant-loop-tree : goal.invariant-loop-tree
invariant-loop-tree l = record {
  stands : Stands l.round l.state;
  procedure : l.state.procedure ≡ l.initial.state.procedure;
  grows : Grows l.initial.state.types.table l.state.types.table;
  legal : HasLegalTypes l.initial.state.types.table → HasLegalTypes l.state.types.table;
  judged : (x : Listed) → IsListedIn l.initial.state l.fn.first x → (m : Making) → Makes l.round l.initial.state m
      → Walking (StandsFor l.round) (sections_from l.round.source.now l.known_here) (sections_from l.round.source.now l.known_here (x, m) l.trees) (l.state, l.listed) (drop l.tree-index l.trees);
}
