use Rattle.std.proofs.Common.{◌≡◌, drop, replicate}
use Rattle.trace_work.specs.Places.{placed_all}
use Rattle.trace_work.proofs.places.places.Given as goal

abbrev pub invariant-loop-trace : goal.invariant-loop-trace
invariant-loop-trace l = placed_all (drop l.trace-index l.traces) l.places.items ≡ placed_all l.traces (replicate l.nodes 0)
