use Rattle.std.proofs.Common.{◌≡◌, drop}
use Rattle.trace_build.specs.Parents.{lowest_of}
use Rattle.trace_build.proofs.entering.lowest.Given as goal

abbrev pub invariant-loop-node : goal.invariant-loop-node
invariant-loop-node l = lowest_of l.holders (drop l.node-index l.nodes) l.lowest ≡ lowest_of l.holders l.nodes l.limit
