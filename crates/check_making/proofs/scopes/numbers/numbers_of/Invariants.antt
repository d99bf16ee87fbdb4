use Rattle.std.proofs.Common.{take}
use Rattle.check_making.specs.scopes.Numbers.{AreNumbersOf}
use Rattle.check_making.proofs.scopes.numbers.numbers_of.Given as goal

abbrev pub invariant-loop-of : goal.invariant-loop-of
invariant-loop-of l = AreNumbersOf l.types.table.entries.items l.numbers (take l.of-index l.all)
