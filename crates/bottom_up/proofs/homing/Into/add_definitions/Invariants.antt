use Rattle.std.proofs.Common.{◌≡◌, drop, filter, map}
use Rattle.block_runs.specs.Live.{defs_of}
use Rattle.lir_core.specs.Flows.{operation_of}
use Rattle.lir_core.specs.Rows.{has_bit}
use Rattle.loc_state.specs.Homed.{all_inserted}
use Rattle.bottom_up.proofs.homing.Into.add_definitions.Given as goal

abbrev pub invariant-loop-lir : goal.invariant-loop-lir
invariant-loop-lir l = all_inserted (filter (has_bit l.self.live.now l.self.head) (defs_of (map operation_of (drop l.lir-index l.lirs)))) l.made ≡ all_inserted (filter (has_bit l.self.live.now l.self.head) (defs_of (map operation_of l.lirs))) l.initial.made
