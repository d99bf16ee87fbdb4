use Rattle.std.proofs.Common.{◌≡◌, [], drop}
use Rattle.loc_state.specs.Homed.{all_inserted}
use Rattle.loc_state.proofs.homes.Homes.of_any.Given as goal

abbrev pub invariant-loop-value : goal.invariant-loop-value
invariant-loop-value l = all_inserted (drop l.value-index l.values) l.homes ≡ all_inserted l.values []
