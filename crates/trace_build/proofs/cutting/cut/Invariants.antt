use Rattle.std.proofs.Common.{◌-◌, length}
use Rattle.trace_build.specs.Cuts.{lists_of, IsCut}
use Rattle.trace_build.proofs.cutting.cut.Given as goal

abbrev pub invariant-loop-rank : goal.invariant-loop-rank
invariant-loop-rank l = IsCut l.builder l.nodes l.ranks l.rank-index (length l.nodes - length (lists_of l.traces.items)) l.free (lists_of l.traces.items)
