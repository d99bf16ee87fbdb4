use Rattle.std.proofs.Common.{◌≡◌, ◌++◌, ◌+◌, drop}
use Rattle.trace_rows.specs.Cells.{word_lines}
use Rattle.trace_rows.proofs.cells.put_word_lines.Given as goal

abbrev pub invariant-loop-index : goal.invariant-loop-index
invariant-loop-index l = l.text.items ++ word_lines (l.first + l.index) (drop l.index l.words) ≡ l.initial.text.items ++ word_lines l.first l.words
