use Rattle.std.proofs.Common.{arith, ◌≡◌, subst}
use Rattle.pool_core.specs.Chains.{IsIndexFrom}
use Rattle.pool_core.proofs.Chains.{all_entered, started}
use Rattle.pool_core.proofs.children.ChildIndex.new.Goals as goal

pub invariant_of-result : goal.invariant_of-result
invariant_of-result c =
    let none_left : c.loop-trace.trace ≡ 0 = omega arith in
    all_entered c.args.parents.items c.loop-trace.first.items c.loop-trace.next.items c.requires.tree c.requires.small
    (subst (λ n. IsIndexFrom n c.args.parents.items c.loop-trace.first.items c.loop-trace.next.items) none_left c.loop-trace.invariant.entered)

pub loop-trace-init : goal.loop-trace-init
loop-trace-init c = record {
  within = omega (arith, c.len-count.ensures, c.args.parents.ok);
  entered = started c.args.parents.items c.len-count.result c.in_ok-first.first.items c.in_ok-next.next.items (omega (arith, c.len-count.ensures, c.args.parents.ok)) c.in_ok-first.ensures c.in_ok-next.ensures;
}
