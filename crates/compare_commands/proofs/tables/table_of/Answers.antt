use Rattle.std.specs.Vec.Iter.{into_iter_items}
use Rattle.compare_commands.specs.Rows.{IsFormed}
use Rattle.compare_commands.specs.Tables.{row_line}
use Rattle.compare_commands.proofs.Turns.{all_of_first, line_told}
use Rattle.compare_commands.proofs.tables.table_of.Goals as goal

pub put_row-requires : goal.put_row-requires
put_row-requires c =
    (all_of_first c.in-Some.row (into_iter_items c.next.new.self) (into_iter_items c.loop-row.rest) c.in-Some.ensures.cases.0 (λ row. IsFormed row.outcome) c.loop-row.invariant.formed).0

pub loop-row-preserved : goal.loop-row-preserved
loop-row-preserved c =
    let row = c.in-Some.row in
    let rest = into_iter_items c.next.new.self in
    let old = into_iter_items c.loop-row.rest in
    let first = c.in-Some.ensures.cases.0 in
    record {
      lines = line_told row rest old first (row_line c.args.steps c.args.input.now) c.loop-row.lines.items _ _ c.loop-row.invariant.lines c.in_ok-put_row.ensures;
      formed = (all_of_first row rest old first (λ row. IsFormed row.outcome) c.loop-row.invariant.formed).1;
    }
