use Rattle.std.proofs.Common.{ap, ◌∙◌}
use Rattle.check_statements.specs.trees.Onto.{branches_onto}
use Rattle.check_statements.proofs.trees.Rows.{branches_more}
use Rattle.check_statements.proofs.trees.made.with_branch.Goals as goal

pub returns : goal.returns
returns c = λ t texts rest. ap (λ l. branches_onto t texts l rest) c.in_ok-push.ensures.items ∙ branches_more t texts c.args.so_far.items _ rest
