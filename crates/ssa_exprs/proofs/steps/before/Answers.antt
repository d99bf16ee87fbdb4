use Rattle.std.proofs.Common.{subst}
use Rattle.ssa_lowered.specs.Control.{fork_and, fork_or}
use Rattle.ssa_exprs.specs.Tables.{expr_in}
use Rattle.ssa_exprs.specs.Walk.{link_in}
use Rattle.ssa_exprs.specs.Steps.{Leads}
use Rattle.ssa_exprs.proofs.Planning.{plain_link, leads_apply, leads_and, leads_or}
use Rattle.ssa_exprs.proofs.steps.before.Goals as goal

pub returns-in_ok-push-in-And : goal.returns-in_ok-push-in-And
returns-in_ok-push-in-And c = λ p here ks x y last v at l.
    let z = c.in-And.field-0 in
    let one = subst (λ k. Leads p here ks c.args.steps.now.items c.args.wanted c.args.b.now (link_in p here k x) last v y) c.in-And.is l in
    leads_and p here ks c.args.i c.in_ok-label-in-And.label c.freq.result c.in_ok-ways-in-And.ways z at c.in-And.is
    c.in_ok-label-in-And.ensures.number c.in_ok-label-in-And.ensures.given c.freq.ensures c.in_ok-push-in-And.ensures.ok
    (c.in_ok-ways-in-And.ensures p here ks (fork_and x.test (expr_in p here z).test) y last v one)

pub returns-in_ok-push-in-Or : goal.returns-in_ok-push-in-Or
returns-in_ok-push-in-Or c = λ p here ks x y last v at l.
    let z = c.in-Or.field-0 in
    let one = subst (λ k. Leads p here ks c.args.steps.now.items c.args.wanted c.args.b.now (link_in p here k x) last v y) c.in-Or.is l in
    leads_or p here ks c.args.i c.in_ok-label-in-Or.label c.freq-in-Or.result c.in_ok-ways-in-Or.ways z at c.in-Or.is
    c.in_ok-label-in-Or.ensures.number c.in_ok-label-in-Or.ensures.given c.freq-in-Or.ensures c.in_ok-push-in-Or.ensures.ok
    (c.in_ok-ways-in-Or.ensures p here ks (fork_or x.test (expr_in p here z).test) y last v one)

pub returns-in_ok-push-in_default : goal.returns-in_ok-push-in_default
returns-in_ok-push-in_default c = λ p here ks x y last v at l.
    leads_apply p here ks c.args.i at c.in_ok-push-in_default.ensures.ok
    (c.in_ok-as_value-in_default.ensures p here ks c.args.b.now v (link_in p here c.args.link.now x) y last (plain_link p here c.args.link.now x c.in_default.not-And c.in_default.not-Or) l)
