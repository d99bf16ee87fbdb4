use Rattle.std.proofs.Common.{◌≡◌, drop, map}
use Rattle.trace_needs.specs.Needs.{at_operation}
use Rattle.trace_needs.specs.Tables.{mentioned, passed_all}
use Rattle.trace_needs.proofs.mentioning.pass_operations.Given as goal

abbrev pub invariant-loop-lir : goal.invariant-loop-lir
invariant-loop-lir l = passed_all mentioned (map at_operation (drop l.lir-index l.lirs)) l.table ≡ passed_all mentioned (map at_operation l.lirs) l.initial.table
