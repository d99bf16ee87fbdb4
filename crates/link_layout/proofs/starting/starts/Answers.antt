use Rattle.std.proofs.Common.{◌≡◌, ◌≤◌, ◌^◌, ◌++◌, ℕ, List, [], drop, sym, ap, ◌∙◌, subst, arith}
use Rattle.std.proofs.lemmas.List.{append-nil, drop_all}
use Rattle.link_words.specs.Fields.{InReach}
use Rattle.link_layout.specs.Starts.{starts_from, end_from}
use Rattle.link_layout.proofs.Placing.{over, err_so, reach_from}
use Rattle.link_layout.proofs.starting.starts.Goals as goal

pub returns-in_err-at-clause-limit : goal.returns-in_err-at-clause-limit
returns-in_err-at-clause-limit c =
    err_so _ c.from_residual-in_err-at.result c.from_residual-in_err-at.ensures.0
    (λ e same. over c.args.first c.loop-width.at c.args.widths.now c.loop-width.width-index c.loop-width-test.true c.loop-width.invariant.ends c.in_err-at.ensures.limit)

pub returns-clause-reach : goal.returns-clause-reach
returns-clause-reach c =
    let l = c.loop-width in
    let done : drop l.width-index c.args.widths.now ≡ [] = drop_all l.width-index c.args.widths.now (omega arith) in
    let same : starts_from c.args.first c.args.widths.now ≡ l.starts.items = sym l.invariant.starts ∙ ap (λ (ws : List ℕ). l.starts.items ++ starts_from l.at ws) done ∙ append-nil l.starts.items in
    let end : l.at ≡ end_from c.args.first c.args.widths.now = sym (ap (λ (ws : List ℕ). end_from l.at ws) done) ∙ l.invariant.ends in
    subst InReach same (reach_from c.args.first c.args.widths.now (omega (arith, end, l.invariant.low)))
