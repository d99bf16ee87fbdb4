use Rattle.check_statements.proofs.trees.Rows.{parameter_is}
use Rattle.check_statements.proofs.trees.made.case_parameter.Goals as goal

pub returns : goal.returns
returns c = λ t texts. parameter_is t texts c.args.selector c.args.parts
