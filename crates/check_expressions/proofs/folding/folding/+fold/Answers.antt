use Rattle.std.proofs.Common.{◌+◌, drop, Some, ap, sym, refl, ◌∙◌}
use Rattle.std.proofs.lemmas.List.{drop_more}
use Rattle.ob_judge.specs.Operands.{fold, fold_link}
use Rattle.ob_judge.specs.Image.{Load}
use Rattle.judged_tree.specs.Plain.{plain_expr, plain_link, plain_designator}
use Rattle.check_expressions.specs.folding.Links.{value_behind_each}
use Rattle.check_expressions.proofs.folding.Chains.{chain_folds, guarded_folds, none_behind_each}
use Rattle.check_expressions.proofs.folding.folding.+fold.Goals as goal

pub fold-returns-in_err-x-in-Chain : goal.fold-returns-in_err-x-in-Chain
fold-returns-in_err-x-in-Chain t c = λ t' texts.
    ap (λ e. fold (plain_expr t' texts e)) c.in-Chain.is
    ∙ chain_folds t' texts c.in-Chain.first c.in-Chain.links
    ∙ ap (value_behind_each t' texts c.in-Chain.links.items) (ap (λ e. fold (plain_expr t' texts e)) (sym c.deref-in-Chain.ensures) ∙ c.in_err-x-in-Chain.ensures t' texts)
    ∙ none_behind_each t' texts c.in-Chain.links.items
    ∙ sym c.from_residual-in_err-x-in-Chain.ensures

pub fold-returns-in_ok-x-in-Chain : goal.fold-returns-in_ok-x-in-Chain
fold-returns-in_ok-x-in-Chain t c = λ t' texts.
    ap (λ e. fold (plain_expr t' texts e)) c.in-Chain.is
    ∙ chain_folds t' texts c.in-Chain.first c.in-Chain.links
    ∙ ap (value_behind_each t' texts c.in-Chain.links.items) (ap (λ e. fold (plain_expr t' texts e)) (sym c.deref-in-Chain.ensures) ∙ c.in_ok-x-in-Chain.ensures t' texts)
    ∙ ap (λ ls. value_behind_each t' texts ls (Some c.in_ok-x-in-Chain.x)) (sym c.deref-in-Chain-2.ensures.value)
    ∙ c.fold_links.ensures t' texts

pub fold-returns-in-Guard : goal.fold-returns-in-Guard
fold-returns-in-Guard t c = λ t' texts. ap (λ e. fold (plain_expr t' texts e)) c.in-Guard.is ∙ guarded_folds c.in-Guard.field-1 (Load (plain_designator t' texts c.in-Guard.field-0.value)) refl

pub fold_links-returns-in_err-x : goal.fold_links-returns-in_err-x
fold_links-returns-in_err-x t c = λ t' texts.
    c.loop-link.invariant t' texts
    ∙ ap (λ ls. value_behind_each t' texts ls (Some c.loop-link.x)) (drop_more c.args.links.now c.loop-link.link-index c.link-item.result c.loop-link-test.true)
    ∙ ap (value_behind_each t' texts (drop (c.loop-link.link-index + 1) c.args.links.now)) (ap (λ l. fold_link (plain_link t' texts l) (Some c.loop-link.x)) (sym c.link-item.is) ∙ c.in_err-x.ensures t' texts)
    ∙ none_behind_each t' texts (drop (c.loop-link.link-index + 1) c.args.links.now)
    ∙ sym c.from_residual.ensures
