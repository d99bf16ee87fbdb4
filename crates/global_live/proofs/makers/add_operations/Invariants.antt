use Rattle.std.proofs.Common.{◌≡◌, drop}
use Rattle.block_runs.specs.Live.{defs_of}
use Rattle.global_live.specs.Search.{made_in, operations_of}
use Rattle.global_live.proofs.makers.add_operations.Given as goal

abbrev pub invariant-loop-lir : goal.invariant-loop-lir
invariant-loop-lir l = made_in l.number (defs_of (operations_of (drop l.lir-index l.lirs))) l.makers.items ≡ made_in l.number (defs_of (operations_of l.lirs)) l.initial.makers.items
