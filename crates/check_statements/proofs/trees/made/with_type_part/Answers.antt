use Rattle.std.proofs.Common.{ap, ◌∙◌}
use Rattle.check_statements.specs.trees.Onto.{type_parts_onto}
use Rattle.check_statements.proofs.trees.Rows.{type_parts_more}
use Rattle.check_statements.proofs.trees.made.with_type_part.Goals as goal

pub returns : goal.returns
returns c = λ t texts rest. ap (λ l. type_parts_onto t texts l rest) c.in_ok-push.ensures.items ∙ type_parts_more t texts c.args.so_far.items _ rest
