use Rattle.std.proofs.Common.{◌≡◌, ◌++◌, drop}
use Rattle.trace_rows.specs.Rows.{entry_rows, lines_behind_entry}
use Rattle.trace_rows.proofs.rows.put_entry_rows.Given as goal

abbrev pub invariant-loop-at : goal.invariant-loop-at
invariant-loop-at l = record {
  text : l.text.items ++ entry_rows (drop l.at l.lines) l.regs ≡ l.initial.text.items ++ entry_rows l.lines l.regs;
  behind : lines_behind_entry (drop l.at l.lines) ≡ lines_behind_entry l.lines;
}
