use Rattle.std.proofs.Common.{◌≡◌, ◌-◌, ◌++◌}
use Rattle.lir_core.specs.Rows.{live_into, live_from}
use Rattle.loc_back.proofs.marks.live_values.Given as goal

abbrev pub invariant-loop-value : goal.invariant-loop-value
invariant-loop-value l = l.list.items ++ live_from l.values l.live l.node l.from ≡ live_into l.values l.live l.node

abbrev pub decreases-loop-value : goal.decreases-loop-value
decreases-loop-value l = l.values - l.from
