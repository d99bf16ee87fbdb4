use Rattle.std.proofs.Common.{◌≡◌, ◌++◌, length, refl, ap, ◌∙◌, arith}
use Rattle.trace_work.specs.Entries.{entries_of}
use Rattle.trace_work.proofs.Entered.{are_tree}
use Rattle.trace_work.proofs.Made.{more, over}
use Rattle.trace_work.proofs.work.TraceWork.new.Goals as goal

pub returns-then-len-most-clause-limit : goal.returns-then-len-most-clause-limit
returns-then-len-most-clause-limit c e =
    let made = c.loop-flow.invariant.made in
    let p = c.in_ok-plan.plan in
    let is = c.in_ok-plan.ensures in
    let gt = c.if-len-most.true in
    let few = made.small in
    let most = c.loop-flow.invariant.most in
    let first : p.first ≡ length c.loop-flow.entries.items = omega (arith, is.first, c.len-first.ensures, c.loop-flow.entries.ok) in
    over c.args.choice.now.builder c.args.before c.args.flows.now c.loop-flow.flow-index c.flow-item.result c.loop-flow-test.true c.flow-item.is c.loop-flow.plans.items c.loop-flow.entries.items made p
    is.flow is.plan first (omega (arith, first, is.number, c.len-first.ensures, c.loop-flow.entries.ok)) is.count is.ordered (omega (arith, gt, few, most, c.len.ensures, c.len-in-loop-flow.ensures))

pub loop-flow-preserved : goal.loop-flow-preserved
loop-flow-preserved c =
    let made = c.loop-flow.invariant.made in
    let p = c.in_ok-plan.plan in
    let is = c.in_ok-plan.ensures in
    let fits = c.if-len-most.false in
    let few = made.small in
    let most = c.loop-flow.invariant.most in
    let first : p.first ≡ length c.loop-flow.entries.items = omega (arith, is.first, c.len-first.ensures, c.loop-flow.entries.ok) in
    let at : c.len-in-loop-flow-2.result ≡ length c.loop-flow.plans.items = omega (arith, c.len-in-loop-flow-2.ensures, c.loop-flow.plans.ok) in
    record {
      most = most;
      end = refl;
      made = more c.args.choice.now.builder c.args.before c.args.flows.now c.loop-flow.flow-index c.flow-item.result c.loop-flow-test.true c.flow-item.is c.loop-flow.plans.items c.loop-flow.entries.items made p
          is.flow is.plan first (omega (arith, first, is.number, c.len-first.ensures, c.loop-flow.entries.ok)) is.count is.ordered c.push.new.self.items c.put_entries.new.entries.items (omega (arith, fits, few, most, c.len.ensures, c.len-in-loop-flow.ensures)) (c.in_ok-put_entries.ensures.entries ∙ ap (λ n. c.loop-flow.entries.items ++ entries_of n p) at) c.in_ok-push.ensures.items;
    }

pub invariant_of-result : goal.invariant_of-result
invariant_of-result c = record {
  fit = c.requires.fit;
  small = c.loop-flow.invariant.made.small;
  behind = c.loop-flow.invariant.made.behind;
  entered = c.loop-flow.invariant.made.entered;
  tree = are_tree c.loop-flow.plans.items c.loop-flow.entries.items c.loop-flow.invariant.made.entered;
}
