use Rattle.std.proofs.Common.{ap, sym, ◌∙◌}
use Rattle.ob_syntax.specs.Plain.{plain_each_selector}
use Rattle.ob_judge.specs.Assignments.{alone}
use Rattle.check_types.proofs.steps.Answering.{goes_on, stop, exit, as_judged}
use Rattle.check_types.specs.names.Meaning.{object_of}
use Rattle.check_types.specs.names.Worlds.{table_of, strings_of, world_of}
use Rattle.check_statements.proofs.deeds.calls.call_statement.Goals as goal

pub returns-in_err-named : goal.returns-in_err-named
returns-in_err-named c = exit _ c.from_residual.ensures.1 (stop _ _ c.in_err-named.ensures)

pub returns-in_err-only : goal.returns-in_err-only
returns-in_err-only c = let s = c.args.scope.now in exit _ c.from_residual-in_err-only.ensures.1 (goes_on _ _ c.in_ok-named.ensures (λ o h. stop _ _ (as_judged
    (ap (λ z. alone s.source.now (world_of s) z (plain_each_selector c.args.tree.now.selectors.items)) (sym h) ∙ ap (λ ss. alone s.source.now (world_of s) (object_of (table_of s) (strings_of s) c.in_ok-named.named) (plain_each_selector ss)) (sym c.deref.ensures.value)) c.in_err-only.ensures)))

pub returns-in_err-x : goal.returns-in_err-x
returns-in_err-x c = let s = c.args.scope.now in exit _ c.from_residual-in_err-x.ensures.1 (goes_on _ _ c.in_ok-named.ensures (λ o h. goes_on _ _ (as_judged
    (ap (λ z. alone s.source.now (world_of s) z (plain_each_selector c.args.tree.now.selectors.items)) (sym h) ∙ ap (λ ss. alone s.source.now (world_of s) (object_of (table_of s) (strings_of s) c.in_ok-named.named) (plain_each_selector ss)) (sym c.deref.ensures.value)) c.in_ok-only.ensures)
    (λ q k. stop _ _ (c.in_err-x.ensures q k))))

pub returns-in_err-y : goal.returns-in_err-y
returns-in_err-y c = let s = c.args.scope.now in exit _ c.from_residual-in_err-y.ensures.1 (goes_on _ _ c.in_ok-named.ensures (λ o h. goes_on _ _ (as_judged
    (ap (λ z. alone s.source.now (world_of s) z (plain_each_selector c.args.tree.now.selectors.items)) (sym h) ∙ ap (λ ss. alone s.source.now (world_of s) (object_of (table_of s) (strings_of s) c.in_ok-named.named) (plain_each_selector ss)) (sym c.deref.ensures.value)) c.in_ok-only.ensures)
    (λ q k. goes_on _ _ (c.in_ok-x.ensures q k) (λ a m. stop _ _ (c.in_err-y.ensures a m)))))

pub returns : goal.returns
returns c = let s = c.args.scope.now in goes_on _ _ c.in_ok-named.ensures (λ o h. goes_on _ _ (as_judged
    (ap (λ z. alone s.source.now (world_of s) z (plain_each_selector c.args.tree.now.selectors.items)) (sym h) ∙ ap (λ ss. alone s.source.now (world_of s) (object_of (table_of s) (strings_of s) c.in_ok-named.named) (plain_each_selector ss)) (sym c.deref.ensures.value)) c.in_ok-only.ensures)
    (λ q k. goes_on _ _ (c.in_ok-x.ensures q k) (λ a m. goes_on _ _ (c.in_ok-y.ensures a m) (λ b n. c.deed.ensures b n))))
