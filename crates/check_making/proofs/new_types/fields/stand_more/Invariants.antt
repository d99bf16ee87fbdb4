use Rattle.std.proofs.Common.{◌≡◌, drop}
use Rattle.ob_judge.specs.Shapes.{Layout}
use Rattle.ob_judge.specs.Making.{Making}
use Rattle.check_making.specs.Making.{Makes, IsSettled}
use Rattle.check_making.proofs.parameters.Rounds.{Walking}
use Rattle.check_making.proofs.parameters.InLists.{StateMakes}
use Rattle.check_making.specs.new_types.Layouts.{IsSoFarIn}
use Rattle.check_making.proofs.new_types.FieldLists.{names_from}
use Rattle.check_making.proofs.new_types.fields.stand_more.Given as goal

abbrev pub invariant-loop-next : goal.invariant-loop-next
invariant-loop-next l = record {
  settled : IsSettled l.round l.state;
  types : l.state.types ≡ l.initial.state.types;
  judged : (g : Layout) → IsSoFarIn l.initial.state l.layout g → (m : Making) → Makes l.round l.initial.state m
      → Walking (StateMakes l.round) (names_from l.round.source.now g) (names_from l.round.source.now g (tt, m) l.more) l.state (drop l.next-index l.more);
}
