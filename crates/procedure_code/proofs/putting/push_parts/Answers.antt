use Rattle.std.proofs.Common.{◌++◌, map, length, ap, ◌∙◌}
use Rattle.a64_table.specs.Table.{word_of}
use Rattle.placed_code.specs.Words.{copies_words}
use Rattle.run_laws.specs.Layers.{spread}
use Rattle.placed_code.specs.Layout.{cell_width}
use Rattle.link_words.specs.Fields.{entry_in}
use Rattle.link_layout.specs.Spots.{copy_of}
use Rattle.link_blocks.specs.Plans.{cell_in, block_in, placed_in}
use Rattle.procedure_code.specs.Parts.{entry_at}
use Rattle.procedure_pieces.specs.Code.{cell_code}
use Rattle.procedure_code.specs.Holes.{hole_in}
use Rattle.procedure_pieces.specs.Pieces.{cell_holes}
use Rattle.procedure_code.proofs.InOrder.{on_ok_so}
use Rattle.procedure_code.proofs.Rows.{on_ok_more}
use Rattle.procedure_code.proofs.Appended.{end_near, parts_appended}
use Rattle.procedure_code.proofs.putting.push_parts.Goals as goal

pub push_end-requires-clause-near : goal.push_end-requires-clause-near
push_end-requires-clause-near c =
    let a = c.args in
    let pr = placed_in a.plan.now in
    let E = entry_at a.entries.procedures.now in
    end_near E a.entries.routines (entry_in a.places.now) a.plan.now (block_in a.block.now) a.next a.words.now.items c.push_cells.new.words.items c.push_copies.new.words.items
    (c.in_ok-push_cells.ensures.words ∙ ap (λ xs. a.words.now.items ++ map word_of (spread (cell_code E a.entries.routines pr) (cell_width pr) 0 (length a.words.now.items) (map cell_in xs))) c.as_slice.ensures)
    (c.in_ok-push_copies.ensures ∙ ap (λ ms. c.push_cells.new.words.items ++ map word_of (copies_words pr (map copy_of ms))) c.as_slice-2.ensures)
    c.requires.near

pub returns-clause-words : goal.returns-clause-words
returns-clause-words c =
    let a = c.args in
    let pr = placed_in a.plan.now in
    let E = entry_at a.entries.procedures.now in
    on_ok_more _ _ c.push_end.result
    (λ e. parts_appended E a.entries.routines (entry_in a.places.now) a.plan.now (block_in a.block.now) a.next a.words.now.items c.push_cells.new.words.items c.push_copies.new.words.items c.push_end.new.words.items
    (c.in_ok-push_cells.ensures.words ∙ ap (λ xs. a.words.now.items ++ map word_of (spread (cell_code E a.entries.routines pr) (cell_width pr) 0 (length a.words.now.items) (map cell_in xs))) c.as_slice.ensures)
    (c.in_ok-push_copies.ensures ∙ ap (λ ms. c.push_cells.new.words.items ++ map word_of (copies_words pr (map copy_of ms))) c.as_slice-2.ensures)
    e) c.push_end.ensures

pub returns-clause-holes : goal.returns-clause-holes
returns-clause-holes c =
    let a = c.args in
    let pr = placed_in a.plan.now in
    on_ok_so _ c.push_end.result (c.in_ok-push_cells.ensures.holes ∙ ap (λ xs. map hole_in a.holes.now.items ++ spread (cell_holes pr) (cell_width pr) 0 (length a.words.now.items) (map cell_in xs)) c.as_slice.ensures)
