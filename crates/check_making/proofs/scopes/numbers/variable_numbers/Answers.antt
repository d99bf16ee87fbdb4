use Rattle.std.proofs.Common.{subst}
use Rattle.check_making.specs.scopes.Numbers.{AreNumbersOf}
use Rattle.check_making.proofs.scopes.numbers.variable_numbers.Goals as goal

pub returns-in-Ok-clause-numbers : goal.returns-in-Ok-clause-numbers
returns-in-Ok-clause-numbers c = subst (AreNumbersOf c.args.state.now.types.table.entries.items c.in-Ok.numbers) c.deref.ensures.value c.in-Ok.ensures
