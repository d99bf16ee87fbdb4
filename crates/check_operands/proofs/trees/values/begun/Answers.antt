use Rattle.std.proofs.Common.{ap, ◌∙◌}
use Rattle.ob_judge.specs.Image as I
use Rattle.judged_tree.specs.Plain.{plain_expr, plain_link}
use Rattle.check_operands.specs.trees.Lists.{each_link}
use Rattle.check_operands.proofs.trees.Rows.{chain_is}
use Rattle.check_operands.proofs.trees.values.begun.Goals as goal

pub returns : goal.returns
returns c = λ t texts.
    chain_is t texts c.in_ok-first.first c.in_ok-links.links
    ∙ ap (λ ls. each_link t texts ls (plain_expr t texts c.in_ok-first.first.value)) c.in_ok-links.ensures.items
    ∙ ap (λ x. I.Linked (plain_expr t texts x) (plain_link t texts c.args.link)) c.in_ok-first.ensures.ok
