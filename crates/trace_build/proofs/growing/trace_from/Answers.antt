use Rattle.trace_build.proofs.Grown.{traced}
use Rattle.trace_build.proofs.growing.trace_from.Goals as goal

pub returns-clause-free : goal.returns-clause-free
returns-clause-free c = (traced c.args.builder c.args.nodes.now c.args.free.now c.args.seed c.in_ok-trace.trace.items c.above.new.free c.push.new.self.items c.grow.new.trace.items c.grow.new.free c.in_ok-trace.ensures.turned c.in_ok-trace.ensures.free c.in_ok-push.ensures.items c.in_ok-grow.ensures.trace c.in_ok-grow.ensures.free).1
