use Rattle.std.proofs.Common.{arith, ◌≡◌, sym, ◌∙◌, ap, subst}
use Rattle.pool_core.specs.Events.{AtRest, merged_stage}
use Rattle.trace_pool.specs.Slots.{SawNoMore}
use Rattle.trace_pool.proofs.Sharing.{saw_more, merged_idle, merged_rest}
use Rattle.trace_pool.proofs.workers.+fn-spread-join+arg3+spread.Goals as goal

pub returns : goal.returns
returns g t c =
    let a = c.join-a.ensures.first in
    let b = c.join-a.ensures.second in
    let v = c.join.ensures.view in
    let va = c.join-a.result.0.seat.me.0.worker.stage in
    let vb = c.join-a.result.1.seat.me.0.worker.stage in
    let rest_a = subst AtRest c.join-a.result.0.same a.1 in
    let rest_b = subst AtRest c.join-a.result.1.same b.1 in
    let stage_is : c.join.result.stage ≡ merged_stage vb va = c.join.result.same ∙ ap (λ x. x.worker.stage) v in
    let shares = ap (λ x. x.worker.share) v in
    let s0 = ap (λ x. x.worker.share) c.split-rest.ensures.views.0 in
    let s1 = ap (λ x. x.worker.share) c.split-rest.ensures.views.1 in
    let fresh = c.requires.fresh.3 in
    let some_jobs = c.requires.jobs in (
      c.join.ensures.sits,
      subst AtRest (sym stage_is) (merged_rest vb va rest_b rest_a),
      omega (arith, a.2, b.2),
      (λ idle. subst (λ x. SawNoMore x.trail) (sym v) (saw_more c.join-a.result.1.seat.me.0.trail c.join-a.result.0.seat.me.0.trail (b.3 (c.join-a.result.1.same ∙ merged_idle vb va rest_b rest_a (sym stage_is ∙ idle))))),
    )
