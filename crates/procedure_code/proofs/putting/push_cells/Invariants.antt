use Rattle.std.proofs.Common.{◌≡◌, ◌+◌, ◌++◌, length, map, drop}
use Rattle.run_laws.specs.Layers.{whole_width, spread}
use Rattle.a64_table.specs.Table.{word_of}
use Rattle.placed_code.specs.Layout.{cell_width}
use Rattle.link_blocks.specs.Plans.{cell_in, placed_in}
use Rattle.procedure_code.specs.Parts.{entry_at}
use Rattle.procedure_pieces.specs.Code.{cell_code}
use Rattle.procedure_code.specs.Holes.{hole_in}
use Rattle.procedure_pieces.specs.Pieces.{cell_holes}
use Rattle.procedure_code.proofs.putting.push_cells.Given as goal

abbrev pub invariant-loop-cell : goal.invariant-loop-cell
invariant-loop-cell l =
    let W = cell_width (placed_in l.plan) in
    let F = cell_code (entry_at l.entries.procedures.now) l.entries.routines (placed_in l.plan) in
    record {
      size : length l.words.items + whole_width W l.cell-index (map cell_in (drop l.cell-index l.cells)) ≡ length l.initial.words.items + whole_width W 0 (map cell_in l.cells);
      words : l.words.items ++ map word_of (spread F W l.cell-index (length l.words.items) (map cell_in (drop l.cell-index l.cells))) ≡ l.initial.words.items ++ map word_of (spread F W 0 (length l.initial.words.items) (map cell_in l.cells));
      holes : map hole_in l.holes.items ++ spread (cell_holes (placed_in l.plan)) W l.cell-index (length l.words.items) (map cell_in (drop l.cell-index l.cells)) ≡ map hole_in l.initial.holes.items ++ spread (cell_holes (placed_in l.plan)) W 0 (length l.initial.words.items) (map cell_in l.cells);
    }
