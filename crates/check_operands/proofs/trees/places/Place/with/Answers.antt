use Rattle.std.proofs.Common.{ap, ◌∙◌}
use Rattle.judged_tree.specs.Plain.{plain_base, plain_selector}
use Rattle.check_operands.specs.trees.Lists.{each_selector, access_image}
use Rattle.check_operands.proofs.trees.Rows.{selectors_more}
use Rattle.check_operands.proofs.trees.places.Place.with.Goals as goal

pub returns : goal.returns
returns c = λ t texts.
    let a = c.deref_mut.result.now in
    ap (λ ss. each_selector t texts ss (plain_base t texts a.base)) c.in_ok-push.ensures.items
    ∙ selectors_more t texts a.selectors.items c.args.selector (plain_base t texts a.base)
    ∙ ap (plain_selector t texts c.args.selector) (ap (access_image t texts) c.deref_mut.ensures.value ∙ c.in_ok-access.ensures t texts)
