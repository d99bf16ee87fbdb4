use Rattle.std.proofs.Common.{◌≡◌, ◌+◌, List, length, map, take, drop, sym, ap, ◌∙◌, subst, arith}
use Rattle.std.specs.Vec.Iter.{into_iter_items}
use Rattle.std.proofs.lemmas.List.{length-map}
use Rattle.lir_core.specs.declared.places.TraceOut.{TraceOut}
use Rattle.flow_allocation.specs.Allocations.{items_of}
use Rattle.flow_allocation.proofs.Taking.{items_more}
use Rattle.alloc_audit.proofs.Verdicts.{item_of}
use Rattle.placed_image.specs.Shares.{cuts_of, AreSharesOf}
use Rattle.placed_image.proofs.Taken.{AreShared, none_shared, one_shared, all_shared, next_cut, few_cuts, resolved}
use Rattle.placed_image.proofs.sharing.share_results.Goals as goal

pub loop-at-init : goal.loop-at-init
loop-at-init c =
    none_shared (cuts_of c.args.flows.now (map (λ v. v.items) c.args.cuts.now) (into_iter_items c.into_iter-rest.result)) _ _
    (ap (map (λ v. v.items)) c.in_ok-with_capacity-2.ensures.items) (ap (map (λ v. v.items)) c.in_ok-with_capacity.ensures.items)

pub loop-at-preserved : goal.loop-at-preserved
loop-at-preserved c =
    let flows = c.args.flows.now in
    let lists = map (λ v. v.items) c.args.cuts.now in
    let i = c.loop-at.at in
    let f = c.index-flows-at.result in
    let ts = c.index-cuts-at.result.items in
    let rest = into_iter_items c.loop-at.rest in
    let all = cuts_of flows lists (into_iter_items c.into_iter-rest.result) in
    let many = length-map c.args.cuts.now (λ v. v.items) in
    let traces : c.as_slice-traces.result.now ≡ ts = c.as_slice-traces.ensures.value in
    let count : length c.as_slice-traces.result.now ≡ length ts = ap length traces in
    let own : c.in_ok-own.own.items ≡ take (length ts) rest = c.in_ok-own.ensures.taken ∙ ap (λ n. take n rest) count in
    let left : into_iter_items c.next_results.new.rest ≡ drop (length ts) rest = c.in_ok-own.ensures.left ∙ ap (λ n. drop n rest) count in
    let next = next_cut flows lists rest i f ts c.loop-at-test.true c.index-flows-at.is (omega (arith, many, c.loop-at-test.true, c.requires)) (item_of (λ v. v.items) c.args.cuts.now i c.index-cuts-at.result c.index-cuts-at.is) in
    let parts = items_more (λ v. v.items) c.loop-at.shares.parts.items c.push.new.self.items c.in_ok-lines.lines c.in_ok-push.ensures.items in
    let outs = items_more (λ v. v.items) c.loop-at.shares.outs.items c.push-in-loop-at.new.self.items c.in_ok-own.own c.in_ok-push-2.ensures.items in
    let lines = resolved f ts c.as_slice-traces.result.now (take (length ts) rest) c.as_slice.result.now c.in_ok-lines.lines.items traces (c.as_slice.ensures.value ∙ own) c.in_ok-lines.ensures in
    subst (λ (xs : List TraceOut). AreShared all (i + 1) (cuts_of (drop (i + 1) flows) (drop (i + 1) lists) xs) (items_of c.push-in-loop-at.new.self) (items_of c.push.new.self)) (sym left)
    (one_shared all i (cuts_of (drop i flows) (drop i lists) rest) (items_of c.loop-at.shares.outs) (items_of c.loop-at.shares.parts) c.loop-at.invariant
    (record { flow = f; traces = ts; outs = take (length ts) rest }) (cuts_of (drop (i + 1) flows) (drop (i + 1) lists) (drop (length ts) rest))
    c.in_ok-own.own.items c.in_ok-lines.lines.items (items_of c.push-in-loop-at.new.self) (items_of c.push.new.self) next own lines outs parts)

pub returns : goal.returns
returns c =
    let flows = c.args.flows.now in
    let lists = map (λ v. v.items) c.args.cuts.now in
    let few = few_cuts flows lists (into_iter_items c.into_iter-rest.result) in
    let all = all_shared _ _ _ _ _ c.loop-at.invariant (omega (arith, few, c.loop-at-test.false)) in
    subst (λ (os : List TraceOut). AreSharesOf (cuts_of flows lists os) c.loop-at.shares) c.into_iter-rest.ensures.rest (record { outs = all.0; parts = all.1 })
