use Rattle.check_statements.proofs.trees.Rows.{repeat_is}
use Rattle.check_statements.proofs.trees.made.repeat_statement.Goals as goal

pub returns : goal.returns
returns c = λ t texts. repeat_is t texts c.args.body c.args.condition
