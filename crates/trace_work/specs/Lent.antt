-- A hint whose places are lent.
use Rattle.std.specs.Prelude.{Option, Some, None}
use Rattle.linear_scan.specs.Linear.{Hint}
use Rattle.trace_work.specs.declared.hints.Hint.{Hint as LentHint}

abbrev pub hints : Option LentHint → Option Hint
hints None = None
hints (Some h) = Some (record { node = h.node; places = h.places.now })
