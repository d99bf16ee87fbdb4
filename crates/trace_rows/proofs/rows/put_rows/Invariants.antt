use Rattle.std.proofs.Common.{◌≡◌, ◌++◌, drop}
use Rattle.trace_rows.specs.Rows.{plain_sheet, plain_seat, rows, rows_cursor, lines_behind}
use Rattle.trace_rows.proofs.rows.put_rows.Given as goal

abbrev pub invariant-loop-at : goal.invariant-loop-at
invariant-loop-at l = record {
  text : l.text.items ++ rows (plain_sheet l.sheet) (plain_seat l.seat) (drop l.at l.lines) l.cursor l.regs
      ≡ l.initial.text.items ++ rows (plain_sheet l.sheet) (plain_seat l.seat) (drop l.from l.lines) l.initial.cursor l.initial.regs;
  cursor : rows_cursor l.sheet.widths.now l.seat.node.now.lirs (drop l.at l.lines) l.cursor ≡ rows_cursor l.sheet.widths.now l.seat.node.now.lirs (drop l.from l.lines) l.initial.cursor;
  behind : lines_behind (drop l.at l.lines) ≡ lines_behind (drop l.from l.lines);
}
