use Rattle.std.proofs.Common.{length, sym, subst}
use Rattle.trace_pool.specs.Ends.{ClosedAs}
use Rattle.trace_pool.proofs.Gathered.{left_all, left_head, left_tail, one_more, none_below}
use Rattle.trace_pool.specs.Ends.{AreFinalBelow}
use Rattle.trace_pool.proofs.results.gather.Goals.{in-Some-found, in-None-found+in_ok-done-in-None-found}
use Rattle.trace_pool.proofs.results.gather.Goals as goal

pub loop-found-init : goal.loop-found-init
loop-found-init g c =
    let F = g.W.Work.is_final c.args.work.now in
    let P = g.W.Work.parents c.args.work.now in
    let finished = c.args.seat.seat.me.0.worker.finished in
    record {
      finals = subst (AreFinalBelow F 0) (sym c.in_ok-finals.ensures.items) (none_below F);
      left = left_all F P finished c.into_iter-found-iterator.result.rest.items c.close-closed.result.items c.into_iter-found-iterator.ensures.into_iter_gives.0
          (subst (λ (w : g.row.W.Denot). ClosedAs (g.W.Work.is_final w) (g.W.Work.parents w) finished c.close-closed.result.items) c.requires.work.0 c.close-closed.ensures);
    }

pub loop-found-preserved : goal.loop-found-preserved
loop-found-preserved g c =
    let F = g.W.Work.is_final c.args.work.now in
    let P = g.W.Work.parents c.args.work.now in
    let n = c.loop-found.trace in
    let inv = c.loop-found.invariant in
    let final : F n c.match-found.done = elim c.match-found.branch [
      | in-Some-found w ↦ subst (F n) (sym w.done-is) (left_head F (length P) n _ c.next.new.self.rest.items c.in-Some.found inv.left c.in-Some.ensures.steps.0 w.in-Some-found.done w.in-Some-found.is)
      | in-None-found+in_ok-done-in-None-found w ↦ subst (F n) (sym w.done-is) w.in_ok-done-in-None-found.ensures
    ] in
    record {
      finals = one_more F n c.loop-found.finals.items c.push.new.self.items c.match-found.done c.in_ok-push.ensures.items inv.finals final;
      left = left_tail F (length P) n _ c.next.new.self.rest.items c.in-Some.found inv.left c.in-Some.ensures.steps.0;
    }
