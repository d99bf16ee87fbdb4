use Rattle.std.proofs.Common.{subst}
use Rattle.ssa_exprs.specs.Steps.{Leads}
use Rattle.ssa_exprs.proofs.Planning.{leads_fork}
use Rattle.ssa_exprs.proofs.steps.as_value.Goals as goal

pub returns-in_ok-push : goal.returns-in_ok-push
returns-in_ok-push c = λ p here ks u v x y last plain l.
    leads_fork p here ks plain c.in_ok-push.ensures.ok (subst (λ f. Leads p here ks c.args.steps.now.items f u x last v y) c.in-Condition.is l)
