use Rattle.std.proofs.Common.{◌≡◌, ◌++◌, length}
use Rattle.std.specs.Prelude.{All}
use Rattle.std.specs.List.{flat_map}
use Rattle.std.specs.Vec.Iter.{into_iter_items}
use Rattle.compare_commands.specs.Rows.{IsFormed}
use Rattle.compare_commands.specs.Tables.{row_line, table_lines}
use Rattle.compare_commands.proofs.tables.table_of.Given as goal

-- the lines so far and those of the rows that are left are all lines; each image that is left is in form
abbrev pub invariant-loop-row : goal.invariant-loop-row
invariant-loop-row l = record {
  lines : l.lines.items ++ flat_map (row_line l.steps l.input) (into_iter_items l.rest) ≡ table_lines l.steps l.input l.fn.rows.items;
  formed : All (λ row. IsFormed row.outcome) (into_iter_items l.rest);
}

abbrev pub decreases-loop-row : goal.decreases-loop-row
decreases-loop-row l = length (into_iter_items l.rest)
