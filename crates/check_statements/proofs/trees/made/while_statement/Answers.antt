use Rattle.check_statements.proofs.trees.Rows.{while_is}
use Rattle.check_statements.proofs.trees.made.while_statement.Goals as goal

pub returns : goal.returns
returns c = λ t texts. while_is t texts c.args.branches
