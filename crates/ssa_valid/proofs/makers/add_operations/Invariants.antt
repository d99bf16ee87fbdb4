use Rattle.std.proofs.Common.{◌≡◌, drop, map}
use Rattle.block_runs.specs.Live.{defs_of}
use Rattle.ssa_core.specs.Procedures.{operation_of}
use Rattle.ssa_valid.specs.Tables.{made_in}
use Rattle.ssa_valid.proofs.makers.add_operations.Given as goal

abbrev pub invariant-loop-op : goal.invariant-loop-op
invariant-loop-op l = made_in l.number (defs_of (map operation_of (drop l.op-index l.ops))) l.makers.items ≡ made_in l.number (defs_of (map operation_of l.ops)) l.initial.makers.items
