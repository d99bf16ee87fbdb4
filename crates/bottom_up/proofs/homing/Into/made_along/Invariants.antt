use Rattle.std.proofs.Common.{◌≡◌, drop, filter, []}
use Rattle.lir_core.specs.Rows.{has_bit}
use Rattle.loc_state.specs.Homed.{all_inserted}
use Rattle.bottom_up.specs.Bottom.{made_along}
use Rattle.bottom_up.proofs.homing.Into.made_along.Given as goal

abbrev pub invariant-loop-number : goal.invariant-loop-number
invariant-loop-number l = all_inserted (filter (has_bit l.self.live.now l.self.head) (made_along l.flow.nodes (drop l.number-index l.nodes))) l.made ≡ all_inserted (filter (has_bit l.self.live.now l.self.head) (made_along l.flow.nodes l.nodes)) []
