use Rattle.std.proofs.Common.{◌≡◌, drop}
use Rattle.ob_judge.specs.Making.{Making}
use Rattle.ob_judge.specs.Parameters.{Listed}
use Rattle.check_types.specs.TypeMeaning.{type_shape}
use Rattle.check_making.specs.Making.{table_of, Makes}
use Rattle.check_making.specs.parameters.Listed.{IsListedIn}
use Rattle.check_making.specs.parameters.Stands.{Stands}
use Rattle.check_making.proofs.parameters.Rounds.{Walking}
use Rattle.check_making.proofs.parameters.OneMore.{StandsFor, parameters_from}
use Rattle.check_making.proofs.parameters.parameters.add_more.Given as goal

abbrev pub invariant-loop-next : goal.invariant-loop-next
invariant-loop-next l = record {
  stands : Stands l.round l.state;
  procedure : l.state.procedure ≡ l.initial.state.procedure;
  types : l.state.types ≡ l.initial.state.types;
  judged : (x : Listed) → IsListedIn l.initial.state l.fn.first x → (m : Making) → Makes l.round l.initial.state m
      → Walking (StandsFor l.round) (parameters_from l.round.source.now l.kind.known_here l.kind.variable (type_shape (table_of l.initial.state) l.kind.of))
      (parameters_from l.round.source.now l.kind.known_here l.kind.variable (type_shape (table_of l.initial.state) l.kind.of) (x, m) l.more) (l.state, l.listed) (drop l.next-index l.more);
}
