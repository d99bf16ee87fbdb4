use Rattle.std.proofs.Common.{ap, ◌∙◌}
use Rattle.ob_judge.specs.Image.{Linked}
use Rattle.judged_tree.specs.Plain.{plain_expr, plain_link}
use Rattle.check_operands.specs.declared.trees.values.Value.{Value}
use Rattle.check_expressions.proofs.links.with_link.Goals as goal

pub returns-clause-ok : goal.returns-clause-ok
returns-clause-ok c = λ t texts.
    ap (λ (v : Value). plain_expr t texts v.tree) c.new.ensures
    ∙ c.in_ok-tree.ensures t texts
    ∙ ap (λ e. Linked (plain_expr t texts e) (plain_link t texts c.args.link)) c.into_tree.ensures
