use Rattle.std.proofs.Common.{sym}
use Rattle.trace_build.proofs.Grown.{grows_on}
use Rattle.trace_build.proofs.growing.grow.Goals as goal

pub loop-next-preserved : goal.loop-next-preserved
loop-next-preserved c = grows_on c.args.way c.args.nodes.now c.args.free.now c.args.trace.now.items c.args.node c.loop-next.free c.loop-next.trace.items c.loop-next.last c.in-Some.next c.push.new.self.items c.loop-next.invariant (sym c.in-Some.ensures.next) c.in-Some.ensures.free c.in_ok-push.ensures.items
