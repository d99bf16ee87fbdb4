use Rattle.std.proofs.Common.{ℕ, ◌+◌, drop, refl, sym, ap, ◌∙◌, subst}
use Rattle.std.specs.Prelude.{slice_index}
use Rattle.ssa_exprs.specs.Making.{View, bound}
use Rattle.ssa_exprs.proofs.Chains.{tests_at}
use Rattle.ssa_statements.specs.Cases.{Climbing}
use Rattle.ssa_statements.specs.Rungs.{rung_in, rungs_in}
use Rattle.ssa_statements.proofs.Ladders.{climbing_next, climbs_all, climbs_bare, climbing_end}
use Rattle.ssa_statements.proofs.cases.ladder.Goals as goal

pub returns-then-rungs-eq0 : goal.returns-then-rungs-eq0
returns-then-rungs-eq0 c = λ p here s. climbs_bare (λ i. slice_index c.args.starts.now i) (rung_in p here c.args.v) c.args.rungs.now c.if-rungs-eq0.true c.in_ok-bare_ladder.ensures

pub loop-i-init : goal.loop-i-init
loop-i-init c = λ p here s. (λ lt. sym c.freq-freq.ensures, λ z y. y)

pub loop-i-preserved : goal.loop-i-preserved
loop-i-preserved c = λ p here s.
    let labels : ℕ → ℕ = λ i. slice_index c.args.starts.now i in
    let no_is = c.in_ok-no.ensures.number in
    let behind = c.in_ok-bind.ensures ∙ ap (bound c.tested.new.b) no_is in
    let f = rung_in p here c.args.v in
    let test = tests_at c.in_ok-no.ensures.given c.label_at.ensures no_is refl (c.in_ok-tested.ensures p here s) in
    let before = c.loop-i.invariant p here s in (
      λ lt. ap (λ (v : View). v.freq) behind ∙ test.freq ∙ c.freq_behind-next.ensures.inside lt,
      λ z y. before.1 z (climbing_next z labels f c.args.rungs.now c.loop-i.i _ c.loop-i-test.true test (λ lt. c.freq_behind-next.ensures.inside lt ∙ sym (before.0 c.loop-i-test.true)) c.freq_behind-next.ensures.last
          (subst (λ k. Climbing k z c.args.last labels (rungs_in p here c.args.v (drop (c.loop-i.i + 1) c.args.rungs.now))) behind y)),
    )

pub returns : goal.returns
returns c = λ p here s. climbs_all (λ i. slice_index c.args.starts.now i) (rung_in p here c.args.v) c.args.rungs.now c.if-rungs-eq0.false
    ((c.loop-i.invariant p here s).1 c.loop-i.b (climbing_end c.loop-i.b c.args.last (λ i. slice_index c.args.starts.now i) (rung_in p here c.args.v) c.args.rungs.now c.loop-i.i c.loop-i-test.false))
