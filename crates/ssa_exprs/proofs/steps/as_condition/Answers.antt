use Rattle.std.proofs.Common.{ap, subst, ◌∙◌}
use Rattle.ssa_lowered.specs.Control.{tested}
use Rattle.ssa_exprs.specs.Making.{View, asked}
use Rattle.ssa_exprs.specs.Steps.{Leads}
use Rattle.ssa_exprs.proofs.Planning.{leads_flag}
use Rattle.ssa_exprs.proofs.steps.as_condition.Goals as goal

pub returns-in_ok-push-in-Value : goal.returns-in_ok-push-in-Value
returns-in_ok-push-in-Value c = λ p here ks t y last v l.
    let one = c.in_ok-yes-in-Value.ensures in
    let two = c.in_ok-no-in-Value.ensures in
    leads_flag p here ks c.in_ok-yes-in-Value.yes c.in_ok-no-in-Value.no c.freq-freq.result c.half.result
    one.number (two.number ∙ ap (λ (u : View). u.labels) one.given) c.freq-freq.ensures c.half.ensures (two.given ∙ ap asked one.given) c.in_ok-push-in-Value.ensures.ok
    (subst (λ f. Leads p here ks c.args.steps.now.items f c.args.b.now (tested t) last v y) c.in-Value.is l)

pub returns-in-Condition : goal.returns-in-Condition
returns-in-Condition c = λ p here ks t y last v l. subst (λ f. Leads p here ks c.args.steps.now.items f c.args.b.now (tested t) last v y) c.in-Condition.is l
