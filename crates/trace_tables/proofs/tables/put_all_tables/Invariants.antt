use Rattle.std.proofs.Common.{◌≡◌, ◌++◌, drop}
use Rattle.trace_tables.specs.Tables.{plain_shown, tables_from}
use Rattle.trace_tables.proofs.tables.put_all_tables.Given as goal

abbrev pub invariant-loop-trace : goal.invariant-loop-trace
invariant-loop-trace l =
    l.text.items ++ tables_from (plain_shown l.shown) l.trace (drop l.trace l.shown.traces.now) (drop l.at l.shown.lines.now) l.cursor
    ≡ l.initial.text.items ++ tables_from (plain_shown l.shown) 0 l.shown.traces.now (drop l.from l.shown.lines.now) l.initial.cursor
