use Rattle.std.proofs.Common.{◌≡◌, drop, map}
use Rattle.block_runs.specs.Live.{defs_of}
use Rattle.ssa_core.specs.Procedures.{operation_of}
use Rattle.ssa_valid.specs.Tables.{tallied}
use Rattle.ssa_valid.proofs.makers.tally_operations.Given as goal

abbrev pub invariant-loop-op : goal.invariant-loop-op
invariant-loop-op l = tallied (defs_of (map operation_of (drop l.op-index l.ops))) l.counts.items ≡ tallied (defs_of (map operation_of l.ops)) l.initial.counts.items
