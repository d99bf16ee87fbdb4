use Rattle.std.proofs.Common.{◌≡◌, drop}
use Rattle.ob_judge.specs.Making.{Making}
use Rattle.check_making.specs.Making.{Makes, IsSettled}
use Rattle.check_making.proofs.parameters.Rounds.{Walking}
use Rattle.check_making.proofs.parameters.InLists.{StateMakes, names_from}
use Rattle.check_making.proofs.parameters.standing.stand_more.Given as goal

abbrev pub invariant-loop-next : goal.invariant-loop-next
invariant-loop-next l = record {
  settled : IsSettled l.round l.state;
  types : l.state.types ≡ l.initial.state.types;
  judged : (m : Making) → Makes l.round l.initial.state m → Walking (StateMakes l.round) (names_from l.round) (names_from l.round (tt, m) l.more) l.state (drop l.next-index l.more);
}
