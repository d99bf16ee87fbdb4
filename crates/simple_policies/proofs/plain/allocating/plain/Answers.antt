use Rattle.std.proofs.Common.{ℕ, List, arith, subst, sym, ap, length, get_or, ◌<◌}
use Rattle.lir_core.specs.declared.places.TraceOut.{TraceOut}
use Rattle.lir_core.specs.Sound.{EndsRise}
use Rattle.walked_results.specs.Walked.{IsWalked}
use Rattle.walked_results.proofs.Sounds.{result_sound}
use Rattle.simple_policies.proofs.plain.Sounds.{walked, ends_rise, in_flow, parts_more, out_is}
use Rattle.simple_policies.proofs.plain.allocating.plain.Goals as goal

pub loop-number-preserved : goal.loop-number-preserved
loop-number-preserved c inside =
    let t = c.args.t.now in
    let i = c.loop-number.number-index in
    let items = c.as_slice-number-items.ensures in
    let lt : i < length t.trace.now.nodes = subst (λ (x : List ℕ). i < length x) items c.loop-number-test.true in
    let there : get_or c.as_slice-number-items.result.now i 0 < length t.flow.now.nodes = subst (λ (x : List ℕ). get_or x i 0 < length t.flow.now.nodes) (sym items) (inside i lt) in
    parts_more t i (get_or c.as_slice-number-items.result.now i 0) c.loop-number.parts c.push.new.self (c.loop-number.invariant inside) lt (ap (λ (x : List ℕ). get_or x i 0) items) (c.in_ok-push.ensures there)

pub returns-clause-result_is : goal.returns-clause-result_is
returns-clause-result_is c trace =
    let t = c.args.t.now in
    let items = c.as_slice-number-items.ensures in
    let all = ap (λ (x : List ℕ). length x) items in
    out_is t c.loop-number.number-index c.loop-number.parts c.from_vec.result c.from_vec-2.result c.from_vec-3.result c.from_vec-4.result (c.loop-number.invariant (in_flow t.flow.now t.trace.now.nodes trace.nodes)) (omega (arith, all)) c.from_vec.ensures c.from_vec-2.ensures c.from_vec-3.ensures c.from_vec-4.ensures

pub returns-clause-walked : goal.returns-clause-walked
returns-clause-walked c valid live trace few =
    let t = c.args.t.now in
    subst (λ (out : TraceOut). IsWalked t.regs t.flow.now t.trace.now out) (sym (returns-clause-result_is c trace))
    (walked t.regs t.flow.now t.live.now valid live few t.trace.now t.number (in_flow t.flow.now t.trace.now.nodes trace.nodes))

pub returns-clause-sound : goal.returns-clause-sound
returns-clause-sound c valid live trace few = result_sound _ _ _ _ (returns-clause-walked c valid live trace few)

pub returns-clause-rises : goal.returns-clause-rises
returns-clause-rises c trace =
    let t = c.args.t.now in
    subst EndsRise (sym (returns-clause-result_is c trace)) (ends_rise t.regs t.flow.now t.live.now t.number t.trace.now.nodes)
