use Rattle.std.proofs.Common.{◌≡◌, ◌+◌, ◌∷◌, [], ◌++◌, List, refl, sym, ap, ◌∙◌, subst, take, drop}
use Rattle.std.specs.Vec.Iter.{into_iter_items}
use Rattle.std.proofs.lemmas.List.{take_more}
use Rattle.lir_core.specs.declared.places.TraceOut.{TraceOut}
use Rattle.boundary_resolve.specs.declared.code_line.CodeLine.{CodeLine}
use Rattle.trace_work.specs.declared.planning.TracePlan.{TracePlan}
use Rattle.flow_allocation.specs.Allocations.{items_of}
use Rattle.flow_allocation.specs.Sharing.{AreLines, HaveLines}
use Rattle.flow_allocation.proofs.Taking.{items_more, share_more}
use Rattle.flow_allocation.proofs.Further.{lines_are, lines_more}
use Rattle.flow_allocation.proofs.allocating.share.Goals as goal

pub loop-plan-preserved : goal.loop-plan-preserved
loop-plan-preserved c =
    let plans = c.args.plans.now in
    let i = c.loop-plan.plan-index in
    let p = c.plan-item.result in
    let lt = c.loop-plan-test.true in
    let outs = items_of c.loop-plan.shared.outs in
    let parts = items_of c.loop-plan.shared.parts in
    let own = c.in_ok-own.own.items in
    let rest = into_iter_items c.loop-plan.rest in
    let ps = items_more (λ v. v.items) c.loop-plan.shared.parts.items c.push.new.self.items c.in_ok-lines.lines c.in_ok-push.ensures.items in
    let os = items_more (λ v. v.items) c.loop-plan.shared.outs.items c.push-in-loop-plan.new.self.items c.in_ok-own.own c.in_ok-push-2.ensures.items in
    let next : take (i + 1) plans ≡ take i plans ++ p ∷ [] = take_more plans i p lt ∙ ap (λ x. take i plans ++ x ∷ []) (sym c.plan-item.is) in
    let one : AreLines p own c.in_ok-lines.lines.items = lines_are p own c.in_ok-lines.lines.items c.as_slice.result.now c.as_slice-in-loop-plan.result.now c.as_slice.ensures c.as_slice-in-loop-plan.ensures.value c.in_ok-lines.ensures in
    let all = lines_more (take i plans) outs parts p own c.in_ok-lines.lines.items c.loop-plan.invariant.lines one in
    record {
      end = refl;
      outs = share_more plans i p lt c.plan-item.is outs rest (into_iter_items c.into_iter-rest.result) own (into_iter_items c.taken.new.rest) (items_of c.push-in-loop-plan.new.self) c.loop-plan.invariant.outs
          (c.in_ok-own.ensures.taken ∙ ap (λ n. take n rest) c.len.ensures) (c.in_ok-own.ensures.left ∙ ap (λ n. drop n rest) c.len.ensures) os;
      lines =
          subst (λ (xs : List TracePlan). HaveLines xs (items_of c.push-in-loop-plan.new.self) (items_of c.push.new.self)) (sym next)
          (subst (λ (xs : List (List TraceOut)). HaveLines (take i plans ++ p ∷ []) xs (items_of c.push.new.self)) (sym os)
          (subst (λ (xs : List (List CodeLine)). HaveLines (take i plans ++ p ∷ []) (outs ++ own ∷ []) xs) (sym ps) all));
    }
