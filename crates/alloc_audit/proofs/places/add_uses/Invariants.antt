use Rattle.std.proofs.Common.{◌≡◌, drop, map}
use Rattle.block_runs.specs.Valid.{uses_of}
use Rattle.lir_core.specs.Flows.{operation_of}
use Rattle.loc_state.specs.Homed.{all_inserted}
use Rattle.alloc_audit.proofs.places.add_uses.Given as goal

abbrev pub invariant-loop-lir : goal.invariant-loop-lir
invariant-loop-lir l = all_inserted (uses_of (map operation_of (drop l.lir-index l.lirs))) l.reads ≡ all_inserted (uses_of (map operation_of l.lirs)) l.initial.reads
