use Rattle.std.proofs.Common.{◌≡◌, drop, filter}
use Rattle.lir_core.specs.Rows.{has_bit}
use Rattle.loc_state.specs.Homed.{all_inserted}
use Rattle.bottom_up.proofs.homing.Into.add_values.Given as goal

abbrev pub invariant-loop-value : goal.invariant-loop-value
invariant-loop-value l = all_inserted (filter (has_bit l.self.live.now l.self.head) (drop l.value-index l.values)) l.made ≡ all_inserted (filter (has_bit l.self.live.now l.self.head) l.values) l.initial.made
