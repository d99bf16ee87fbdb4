use Rattle.std.proofs.Common.{◌≡◌, sym, ap, ◌∙◌}
use Rattle.ob_judge.specs.Image as I
use Rattle.judged_tree.specs.Plain.{plain_expr, plain_link}
use Rattle.check_operands.specs.trees.Lists.{each_link}
use Rattle.check_operands.proofs.trees.Rows.{chain_is, links_more}
use Rattle.check_operands.proofs.trees.values.linked.Goals as goal

pub returns-in_ok-push-in-Chain : goal.returns-in_ok-push-in-Chain
returns-in_ok-push-in-Chain c = λ t texts.
    chain_is t texts c.in-Chain.first c.push.new.self
    ∙ ap (λ ls. each_link t texts ls (plain_expr t texts c.in-Chain.first.value)) c.in_ok-push-in-Chain.ensures.items
    ∙ links_more t texts c.in-Chain.links.items c.args.link (plain_expr t texts c.in-Chain.first.value)
    ∙ ap (λ x. I.Linked x (plain_link t texts c.args.link)) (sym (chain_is t texts c.in-Chain.first c.in-Chain.links) ∙ ap (plain_expr t texts) (sym c.in-Chain.is))
