use Rattle.std.proofs.Common.{◌≡◌, ◌+◌, ◌++◌, suc, map, drop, length, ap, sym, ◌∙◌, arith, length-append}
use Rattle.run_laws.specs.Layers.{whole_width, spread}
use Rattle.procedure_pieces.specs.Pieces.{filled}
use Rattle.procedure_pieces.specs.Linked.{piece_width}
use Rattle.procedure_pieces.proofs.Ordered.{filled_size}
use Rattle.procedure_code.specs.Parts.{entry_at}
use Rattle.procedure_code.specs.Joined.{filled_by}
use Rattle.procedure_code.specs.Views.{piece_in}
use Rattle.procedure_code.proofs.Rows.{mapped_more}
use Rattle.procedure_code.proofs.InOrder.{holes_more}
use Rattle.procedure_code.proofs.joining.push_pieces.Goals as goal

pub loop-piece-preserved : goal.loop-piece-preserved
loop-piece-preserved c =
    let a = c.args in
    let l = c.loop-piece in
    let E = entry_at a.entries.procedures.now in
    let S = a.entries.routines in
    let F = filled_by E S in
    let i = l.piece-index in
    let piece = piece_in c.piece-item.result in
    let rest = map piece_in (drop (i + 1) a.pieces.now) in
    let old = l.words.items in
    let new = c.push_piece.new.words.items in
    let d = mapped_more piece_in a.pieces.now i c.piece-item.result c.loop-piece-test.true c.piece-item.is in
    let z : i + 1 ≡ suc i = omega arith in
    let w = ap length c.in_ok-push_piece.ensures ∙ length-append old (filled E S (length old) piece) in
    let s = filled_size E S (length old) piece.holes piece.words in
    let before = ap (λ xs. whole_width piece_width i xs) d in
    let behind = ap (λ m. whole_width piece_width m rest) z in
    record {
      size = omega (arith, l.invariant.size, w, s, before, behind);
      words = holes_more F piece_width i (i + 1) (length old) (length new) piece rest old new _ z (omega (arith, w, s)) c.in_ok-push_piece.ensures
          (sym (ap (λ xs. old ++ spread F piece_width i (length old) xs) d) ∙ l.invariant.words);
    }
