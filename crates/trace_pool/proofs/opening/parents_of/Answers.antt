use Rattle.std.proofs.Common.{◌≡◌, ◌∷◌, ◌++◌, [], List, ℕ, length, take, arith, sym, ap, ◌∙◌}
use Rattle.std.specs.Prelude.{Option}
use Rattle.pool_core.proofs.Sums.{take_whole}
use Rattle.trace_pool.proofs.Ends.{take_next}
use Rattle.trace_pool.proofs.opening.parents_of.Goals as goal

pub loop-trace-preserved : goal.loop-trace-preserved
loop-trace-preserved g c =
    let P = g.W.Work.parents c.args.work.now in
    c.in_ok-push.ensures.items ∙ (ap (λ (l : List (Option ℕ)). l ++ c.parent.result ∷ []) c.loop-trace.invariant ∙ sym (take_next P c.loop-trace.trace c.parent.result c.parent.ensures))

pub returns : goal.returns
returns g c =
    let P = g.W.Work.parents c.args.work.now in
    let all : c.loop-trace.trace ≡ length P = omega (arith, c.loop-trace.auto.trace-end, c.loop-trace-test.false, c.count-count.ensures) in
    c.loop-trace.invariant ∙ (ap (λ k. take k P) all ∙ take_whole P)
