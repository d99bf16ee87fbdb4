use Rattle.std.proofs.Common.{◌≡◌, drop}
use Rattle.trace_build.specs.Parents.{held}
use Rattle.trace_build.proofs.entering.hold.Given as goal

abbrev pub invariant-loop-node : goal.invariant-loop-node
invariant-loop-node l = held l.number (drop l.node-index l.nodes) l.holders ≡ held l.number l.nodes l.initial.holders
