use Rattle.std.proofs.Common.{◌≡◌, ◌-◌}
use Rattle.std.specs.List.{list_all}
use Rattle.block_runs.specs.Live.{has}
use Rattle.lir_core.specs.Rows.{live_from}
use Rattle.alloc_audit.specs.Parts.{placed_by}
use Rattle.alloc_audit.proofs.places.has_live.Given as goal

abbrev pub invariant-loop-value : goal.invariant-loop-value
invariant-loop-value l = list_all (placed_by l.regs (has l.homes)) (live_from l.values l.live l.node l.from) ≡ list_all (placed_by l.regs (has l.homes)) (live_from l.values l.live l.node 0)

abbrev pub decreases-loop-value : goal.decreases-loop-value
decreases-loop-value l = l.values - l.from
