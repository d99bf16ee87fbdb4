use Rattle.std.proofs.Common.{◌≡◌, ◌++◌, drop, filter}
use Rattle.lir_core.specs.Rows.{has_bit}
use Rattle.simple_policies.proofs.trivial.living.live_homes.Given as goal

abbrev pub invariant-loop-value : goal.invariant-loop-value
invariant-loop-value l = l.values ++ filter (has_bit l.live l.node) (drop l.value-index l.homed) ≡ filter (has_bit l.live l.node) l.homed
