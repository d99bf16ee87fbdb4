use Rattle.trace_build.specs.Traces.{size}
use Rattle.trace_build.proofs.Grown.{Grows}
use Rattle.trace_build.proofs.growing.grow.Given as goal

abbrev pub invariant-loop-next : goal.invariant-loop-next
invariant-loop-next l = Grows l.way l.nodes l.initial.free l.initial.trace.items l.node l.free l.trace.items l.last

abbrev pub decreases-loop-next : goal.decreases-loop-next
decreases-loop-next l = size l.free
