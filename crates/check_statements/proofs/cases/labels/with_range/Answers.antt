use Rattle.std.proofs.Common.{ap, ap₂, sym, ◌∙◌, w64, rules}
use Rattle.std.proofs.lemmas.Int.{to_z-of_z}
use mir.Val.{SFits}
use Rattle.ob_judge.specs.Scopes.{place}
use Rattle.ob_judge.specs.Cases.{high_label}
use Rattle.check_types.proofs.steps.Answering.{goes_on, as_judged}
use Rattle.check_types.specs.names.Worlds.{world_of}
use Rattle.check_statements.specs.cases.Labels.{labelled_ends}
use Rattle.check_statements.proofs.cases.Labelling.{one_is}
use Rattle.check_statements.proofs.cases.labels.with_range.Goals as goal

pub returns : goal.returns
returns c = λ a h.
    let f : SFits w64 c.in_ok-low.low = search rules in
    let g : SFits w64 c.in_ok-high.high = search rules in
    let l = to_z-of_z w64 c.in_ok-low.low f in
    let u = to_z-of_z w64 c.in_ok-high.high g in
    as_judged (one_is c.args.scope.now.source.now (world_of c.args.scope.now) c.args.of_char a c.args.tree.now)
    (goes_on _ _ c.in_ok-low.ensures (λ low e.
    goes_on _ _ (as_judged (ap (λ n. high_label c.args.scope.now.source.now (world_of c.args.scope.now) c.args.of_char n c.args.tree.now.high) (sym (l ∙ e))) c.in_ok-high.ensures) (λ high i.
    as_judged (ap (λ n. labelled_ends c.args.scope.now.source.now (world_of c.args.scope.now) (place c.args.scope.now.source.now n) low high c.args.tree.now.high a) (sym c.label_symbol.ensures)
    ∙ ap₂ (λ m n. labelled_ends c.args.scope.now.source.now (world_of c.args.scope.now) (place c.args.scope.now.source.now c.label_symbol.result) m n c.args.tree.now.high a) (sym (l ∙ e)) (sym (u ∙ i)))
    (c.with_ends.ensures a h))))
