use Rattle.std.proofs.Common.{◌≡◌, get_or, Some, None, sym, ap, ◌∙◌, subst}
use Rattle.trace_work.specs.Lent.{hints}
use Rattle.trace_work.specs.Plans.{IsHint}
use Rattle.trace_work.proofs.Lending.{lent_hint, no_hint}
use Rattle.trace_work.proofs.results.hint_behind.Goals as goal

pub returns-in_err-above-clause-hint : goal.returns-in_err-above-clause-hint
returns-in_err-above-clause-hint c planned finals =
    let choice = c.args.choice.now in
    let p = c.args.plan.now in
    let none : get_or p.parents c.args.number None ≡ None = ap (λ ps. get_or ps c.args.number None) (sym c.as_slice.ensures) ∙ c.in_err-above.was in
    subst (λ h. IsHint choice p c.args.number (hints h)) (sym c.from_residual.ensures) (no_hint choice p c.requires.fit c.requires.ordered c.args.number c.requires.within c.args.outs.now none planned)

pub returns-clause-hint : goal.returns-clause-hint
returns-clause-hint c planned finals =
    let p = c.args.plan.now in
    let known : get_or p.parents c.args.number None ≡ Some c.in_ok-above.field-0 = ap (λ ps. get_or ps c.args.number None) (sym c.as_slice.ensures) ∙ c.in_ok-above.was in
    lent_hint c.args.choice.now p c.requires.fit c.requires.ordered c.args.number c.requires.within c.args.outs.now c.in_ok-above.field-0 c.index-outs-above.result (hints c.taken_hint.result) known c.requires.before c.index-outs-above.is c.taken_hint.ensures.hint planned finals
