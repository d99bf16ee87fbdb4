use Rattle.std.proofs.Common.{◌≡◌, drop, map}
use Rattle.block_runs.specs.Valid.{uses_of}
use Rattle.ssa_core.specs.Procedures.{operation_of}
use Rattle.ssa_valid.specs.Tables.{noted}
use Rattle.ssa_valid.proofs.lists.Lists.note_operations.Given as goal

abbrev pub invariant-loop-op : goal.invariant-loop-op
invariant-loop-op l = noted l.block (uses_of (map operation_of (drop l.op-index l.ops))) l.self ≡ noted l.block (uses_of (map operation_of l.ops)) l.initial.self
