use Rattle.std.proofs.Common.{◌≡◌, drop}
use Rattle.trace_work.specs.Places.{first_held}
use Rattle.trace_work.proofs.hints.first_held.Given as goal

abbrev pub invariant-loop-node : goal.invariant-loop-node
invariant-loop-node l = first_held l.places l.parent (drop l.node-index l.nodes) ≡ first_held l.places l.parent l.nodes
