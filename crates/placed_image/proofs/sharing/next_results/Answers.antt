use Rattle.std.specs.Vec.Iter.{into_iter_items}
use Rattle.flow_allocation.proofs.Taking.{one_more}
use Rattle.placed_image.proofs.sharing.next_results.Goals as goal

pub loop-preserved : goal.loop-preserved
loop-preserved c = one_more c.args.count c.loop.counter c.loop.own.items (into_iter_items c.loop.rest) (into_iter_items c.args.rest.now) c.in-Some.out c.push.new.self.items (into_iter_items c.next.new.self) c.loop.invariant c.loop-test.true c.in-Some.ensures.cases.0 c.in_ok-push-in-Some.ensures.items
