use Rattle.std.proofs.Common.{◌≡◌, drop}
use Rattle.trace_tables.specs.Counts.{none, with_nodes}
use Rattle.trace_tables.proofs.counts.counts_of.Given as goal

abbrev pub invariant-loop-lines : goal.invariant-loop-lines
invariant-loop-lines l = with_nodes l.all (drop l.lines-index l.nodes) ≡ with_nodes none l.nodes
