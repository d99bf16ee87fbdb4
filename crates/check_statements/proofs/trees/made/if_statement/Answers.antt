use Rattle.check_statements.proofs.trees.Rows.{if_is}
use Rattle.check_statements.proofs.trees.made.if_statement.Goals as goal

pub returns : goal.returns
returns c = λ t texts. if_is t texts c.args.branches c.args.otherwise
