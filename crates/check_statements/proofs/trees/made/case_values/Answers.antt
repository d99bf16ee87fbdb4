use Rattle.check_statements.proofs.trees.Rows.{case_is}
use Rattle.check_statements.proofs.trees.made.case_values.Goals as goal

pub returns : goal.returns
returns c = λ t texts. case_is t texts c.args.selector c.args.parts
