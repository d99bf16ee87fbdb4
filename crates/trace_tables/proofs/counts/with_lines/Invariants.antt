use Rattle.std.proofs.Common.{◌≡◌, drop}
use Rattle.trace_tables.specs.Counts.{with_lines}
use Rattle.trace_tables.proofs.counts.with_lines.Given as goal

abbrev pub invariant-loop-line : goal.invariant-loop-line
invariant-loop-line l = with_lines l.all (drop l.line-index l.lines) ≡ with_lines l.initial.all l.lines
