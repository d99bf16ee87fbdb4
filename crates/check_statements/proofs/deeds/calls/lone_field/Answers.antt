use Rattle.check_statements.proofs.deeds.Deeds.{many_behind}
use Rattle.check_statements.proofs.deeds.calls.lone_field.Goals as goal

pub returns-in_default-2 : goal.returns-in_default-2
returns-in_default-2 c = many_behind c.args.selectors.now c.in_default.len_at_least
