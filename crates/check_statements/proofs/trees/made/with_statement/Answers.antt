use Rattle.std.proofs.Common.{ap, ◌∙◌}
use Rattle.check_statements.specs.trees.Onto.{statements_onto}
use Rattle.check_statements.proofs.trees.Rows.{statements_more}
use Rattle.check_statements.proofs.trees.made.with_statement.Goals as goal

pub returns : goal.returns
returns c = λ t texts rest. ap (λ l. statements_onto t texts l rest) c.in_ok-push.ensures.items ∙ statements_more t texts c.args.so_far.items c.args.made rest
