use Rattle.std.proofs.Common.{◌≡◌, drop}
use Rattle.trace_needs.specs.Tables.{noted_all}
use Rattle.trace_needs.proofs.notes.Notes.note_all.Given as goal

abbrev pub invariant-loop-value : goal.invariant-loop-value
invariant-loop-value l = noted_all (drop l.value-index l.values) l.position l.self ≡ noted_all l.values l.position l.initial.self
