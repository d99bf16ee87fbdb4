use Rattle.std.proofs.Common.{take}
use Rattle.block_runs.specs.Valid.{uses_of}
use Rattle.global_live.specs.Search.{marks_of, operations_of, Reaches}
use Rattle.global_live.proofs.search.Search.follow_operations.Given as goal

abbrev pub invariant-loop-lir : goal.invariant-loop-lir
invariant-loop-lir l = Reaches l.flow l.makers l.number (uses_of (operations_of (take l.lir-index l.lirs))) (marks_of l.initial.self) (marks_of l.self)
