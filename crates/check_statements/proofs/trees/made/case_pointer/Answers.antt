use Rattle.check_statements.proofs.trees.Rows.{pointer_is}
use Rattle.check_statements.proofs.trees.made.case_pointer.Goals as goal

pub returns : goal.returns
returns c = λ t texts. pointer_is t texts c.args.selector c.args.parts
