use Rattle.std.proofs.Common.{◌≡◌, ◌-◌}
use Rattle.lir_core.specs.Rows.{live_from}
use Rattle.trace_needs.specs.Tables.{noted_all}
use Rattle.trace_needs.proofs.notes.Notes.note_live.Given as goal

abbrev pub invariant-loop-value : goal.invariant-loop-value
invariant-loop-value l = noted_all (live_from l.values l.live l.node l.from) l.position l.self ≡ noted_all (live_from l.values l.live l.node 0) l.position l.initial.self

abbrev pub decreases-loop-value : goal.decreases-loop-value
decreases-loop-value l = l.values - l.from
