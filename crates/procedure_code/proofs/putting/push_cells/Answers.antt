use Rattle.std.proofs.Common.{◌≡◌, ◌+◌, ◌++◌, suc, map, drop, length, ap, sym, ◌∙◌, arith}
use Rattle.run_laws.specs.Layers.{whole_width, spread}
use Rattle.a64_table.specs.Table.{word_of}
use Rattle.placed_code.specs.Layout.{cell_width}
use Rattle.link_blocks.specs.Plans.{cell_in, placed_in}
use Rattle.procedure_code.specs.Parts.{entry_at}
use Rattle.procedure_pieces.specs.Code.{cell_code}
use Rattle.procedure_code.specs.Holes.{hole_in}
use Rattle.procedure_pieces.specs.Pieces.{cell_holes}
use Rattle.procedure_code.proofs.InOrder.{holes_more}
use Rattle.procedure_code.proofs.Rows.{row_more, longer, mapped_more}
use Rattle.procedure_pieces.proofs.Sizes.{cell_size}
use Rattle.procedure_code.proofs.putting.push_cells.Goals as goal

pub loop-cell-preserved : goal.loop-cell-preserved
loop-cell-preserved c =
    let a = c.args in
    let l = c.loop-cell in
    let pr = placed_in a.plan.now in
    let E = entry_at a.entries.procedures.now in
    let S = a.entries.routines in
    let i = l.cell-index in
    let cell = cell_in c.cell-item.result in
    let d = mapped_more cell_in a.cells.now i c.cell-item.result c.loop-cell-test.true c.cell-item.is in
    let z : i + 1 ≡ suc i = omega arith in
    let w = longer l.words.items c.push_cell.new.words.items (cell_code E S pr 0 (length l.words.items) cell) c.in_ok-push_cell.ensures.words in
    let s = cell_size E S (λ t. 0) pr 0 (length l.words.items) cell in
    let before = ap (λ xs. whole_width (cell_width pr) i xs) d in
    let behind = ap (λ m. whole_width (cell_width pr) m (map cell_in (drop (i + 1) a.cells.now))) z in
    record {
      size = omega (arith, l.invariant.size, w, s, before, behind);
      words = row_more (cell_code E S pr) (cell_width pr) (cell_size E S (λ t. 0) pr) i (i + 1) cell (map cell_in (drop (i + 1) a.cells.now)) l.words.items c.push_cell.new.words.items _ z c.in_ok-push_cell.ensures.words
          (sym (ap (λ xs. l.words.items ++ map word_of (spread (cell_code E S pr) (cell_width pr) i (length l.words.items) xs)) d) ∙ l.invariant.words);
      holes = holes_more (cell_holes pr) (cell_width pr) i (i + 1) (length l.words.items) (length c.push_cell.new.words.items) cell (map cell_in (drop (i + 1) a.cells.now)) (map hole_in l.holes.items) (map hole_in c.push_cell.new.holes.items) _ z (omega (arith, w, s)) c.in_ok-push_cell.ensures.holes
          (sym (ap (λ xs. map hole_in l.holes.items ++ spread (cell_holes pr) (cell_width pr) i (length l.words.items) xs) d) ∙ l.invariant.holes);
    }
