use Rattle.std.proofs.Common.{ap, ◌∙◌}
use Rattle.check_statements.specs.trees.Onto.{case_parts_onto}
use Rattle.check_statements.proofs.trees.Rows.{case_parts_more}
use Rattle.check_statements.proofs.trees.made.with_case_part.Goals as goal

pub returns : goal.returns
returns c = λ t texts rest. ap (λ l. case_parts_onto t texts l rest) c.in_ok-push.ensures.items ∙ case_parts_more t texts c.args.so_far.items _ rest
