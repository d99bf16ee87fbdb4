use Rattle.std.proofs.Common.{◌≡◌, [], drop, filter}
use Rattle.lir_core.specs.Rows.{has_bit}
use Rattle.loc_state.specs.Homed.{all_inserted}
use Rattle.linear_scan.proofs.starting.live_homes.Given as goal

abbrev pub invariant-loop-value : goal.invariant-loop-value
invariant-loop-value l = all_inserted (filter (has_bit l.head.live.now l.head.node) (drop l.value-index l.homed)) l.homes ≡ all_inserted (filter (has_bit l.head.live.now l.head.node) l.homed) []
