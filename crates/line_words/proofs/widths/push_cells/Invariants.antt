use Rattle.std.proofs.Common.{◌≡◌, ◌++◌, map, drop}
use Rattle.placed_code.specs.Layout.{cell_width}
use Rattle.link_layout.specs.Widths.{widths_of}
use Rattle.link_blocks.specs.Plans.{cell_in, placed_in}
use Rattle.line_words.proofs.widths.push_cells.Given as goal

abbrev pub invariant-loop-cell : goal.invariant-loop-cell
invariant-loop-cell l =
    l.widths.items ++ widths_of (cell_width (placed_in l.plan)) l.cell-index (map cell_in (drop l.cell-index l.cells))
    ≡ l.initial.widths.items ++ widths_of (cell_width (placed_in l.plan)) 0 (map cell_in l.cells)
