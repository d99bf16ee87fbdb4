use Rattle.std.proofs.Common.{sym, subst, take, ◌+◌}
use Rattle.check_making.specs.scopes.Numbers.{AreNumbersOf}
use Rattle.check_making.proofs.scopes.ByNumber.{numbers_next, numbered_at}
use Rattle.check_making.proofs.scopes.numbers.numbers_of.Goals as goal

pub number-number-requires-clause-numbered : goal.number-number-requires-clause-numbered
number-number-requires-clause-numbered c = (numbered_at c.args.types.now.table.entries.items c.args.all.now c.loop-of.of-index _ c.loop-of-test.true c.requires.numbered).numbered

pub loop-of-preserved : goal.loop-of-preserved
loop-of-preserved c =
    subst (λ ns. AreNumbersOf c.args.types.now.table.entries.items ns (take (c.loop-of.of-index + 1) c.args.all.now)) (sym c.in_ok-push.ensures.ok)
    (numbers_next c.args.types.now.table.entries.items c.loop-of.numbers c.args.all.now c.loop-of.of-index c.number-number.result _ c.loop-of-test.true c.loop-of.invariant c.number-number.ensures.entry)
