use Rattle.std.proofs.Common.{◌≡◌, drop}
use Rattle.trace_needs.specs.Needs.{positions_of}
use Rattle.trace_needs.specs.Tables.{needed, passed_all}
use Rattle.trace_needs.proofs.needing.pass_needs.Given as goal

abbrev pub invariant-loop-i : goal.invariant-loop-i
invariant-loop-i l = passed_all needed (positions_of l.flow l.live (drop l.i l.nodes)) l.table ≡ passed_all needed (positions_of l.flow l.live l.nodes) l.initial.table
