use Rattle.std.proofs.Common.{◌≡◌, ◌-◌, []}
use Rattle.lir_core.specs.Rows.{live_from}
use Rattle.loc_state.specs.Homed.{all_inserted}
use Rattle.linear_scan.proofs.starting.all_live.Given as goal

abbrev pub invariant-loop-value : goal.invariant-loop-value
invariant-loop-value l = all_inserted (live_from l.values l.head.live.now l.head.node l.from) l.homes ≡ all_inserted (live_from l.values l.head.live.now l.head.node 0) []

abbrev pub decreases-loop-value : goal.decreases-loop-value
decreases-loop-value l = l.values - l.from
