use Rattle.std.proofs.Common.{◌≡◌, ◌++◌, drop}
use Rattle.trace_tables.specs.Tables.{plain_shown, blocks_rows, blocks_cursor, lines_behind_blocks}
use Rattle.trace_tables.proofs.tables.put_blocks_rows.Given as goal

abbrev pub invariant-loop-place : goal.invariant-loop-place
invariant-loop-place l = record {
  text : l.text.items ++ blocks_rows (plain_shown l.shown) l.trace l.place (drop l.place l.blocks) (drop l.at l.shown.lines.now) l.cursor
      ≡ l.initial.text.items ++ blocks_rows (plain_shown l.shown) l.trace 0 l.blocks (drop l.from l.shown.lines.now) l.initial.cursor;
  cursor : blocks_cursor (plain_shown l.shown) (drop l.place l.blocks) (drop l.at l.shown.lines.now) l.cursor
      ≡ blocks_cursor (plain_shown l.shown) l.blocks (drop l.from l.shown.lines.now) l.initial.cursor;
  behind : lines_behind_blocks (drop l.place l.blocks) (drop l.at l.shown.lines.now) ≡ lines_behind_blocks l.blocks (drop l.from l.shown.lines.now);
}
