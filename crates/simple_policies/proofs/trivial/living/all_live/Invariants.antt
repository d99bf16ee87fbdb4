use Rattle.std.proofs.Common.{◌≡◌, ◌++◌, ◌-◌}
use Rattle.lir_core.specs.Rows.{live_from}
use Rattle.simple_policies.proofs.trivial.living.all_live.Given as goal

abbrev pub invariant-loop-value : goal.invariant-loop-value
invariant-loop-value l = l.values ++ live_from l.count l.live l.node l.from ≡ live_from l.count l.live l.node 0

abbrev pub decreases-loop-value : goal.decreases-loop-value
decreases-loop-value l = l.count - l.from
