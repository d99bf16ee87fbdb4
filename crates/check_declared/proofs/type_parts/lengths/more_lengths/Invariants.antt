use Rattle.std.proofs.Common.{drop}
use Rattle.ob_judge.specs.Making.{Making}
use Rattle.check_making.specs.Making.{Makes}
use Rattle.check_making.proofs.parameters.Rounds.{Walking}
use Rattle.check_declared.specs.type_parts.Lengths.{AreTheLengths}
use Rattle.check_declared.proofs.type_parts.ArrayLengths.{lengths_from}
use Rattle.check_declared.proofs.type_parts.lengths.more_lengths.Given as goal

abbrev pub invariant-loop-next : goal.invariant-loop-next
invariant-loop-next l = (m : Making) → Makes l.round l.state m
    → Walking AreTheLengths (lengths_from l.round.source.now m.world) (lengths_from l.round.source.now m.world l.fn.first.items l.more) l.all (drop l.next-index l.more)
