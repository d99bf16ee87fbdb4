use Rattle.std.proofs.Common.{◌≡◌, ◌++◌, drop}
use Rattle.std.specs.Prelude.{flat_map}
use Rattle.trace_build.specs.Cuts.{lists_of, all_nodes}
use Rattle.boundary_resolve.specs.Placing.{node_lines, placed_of}
use Rattle.boundary_resolve.specs.Codes.{AreRows}
use Rattle.boundary_resolve.proofs.resolving.resolve.Given as goal

abbrev pub invariant-loop-trace : goal.invariant-loop-trace
invariant-loop-trace l = AreRows l.flow l.traces l.outs → l.placed.items ++ flat_map (node_lines l.flow l.traces l.outs) (all_nodes (lists_of (drop l.trace-index l.traces))) ≡ placed_of l.flow l.traces l.outs
