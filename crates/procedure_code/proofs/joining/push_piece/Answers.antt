use Rattle.std.proofs.Common.{◌≡◌, ◌++◌, map, length, ap, ◌∙◌, arith}
use Rattle.procedure_pieces.specs.Pieces.{all_filled}
use Rattle.procedure_code.specs.Parts.{entry_at}
use Rattle.procedure_code.specs.Joined.{filled_at}
use Rattle.procedure_code.specs.Holes.{hole_in}
use Rattle.procedure_code.proofs.InOrder.{filled_behind}
use Rattle.procedure_code.proofs.joining.push_piece.Goals as goal

pub returns : goal.returns
returns c =
    let a = c.args in
    let E = entry_at a.entries.procedures.now in
    let S = a.entries.routines in
    let w0 = a.words.now.items in
    let ws = a.piece.now.words.items in
    let hs = map hole_in a.piece.now.holes.items in
    let from = c.len-from.result in
    let long : from ≡ length w0 = omega (arith, c.len-from.ensures, a.words.now.ok) in
    c.fill.ensures
    ∙ ap (λ gs. filled_at E S from (map hole_in gs) c.push_all.new.words.items) c.as_slice-2.ensures.value
    ∙ ap (λ l. filled_at E S from hs l) (c.in_ok-push_all.ensures ∙ ap (λ l. w0 ++ l) c.as_slice.ensures.value)
    ∙ filled_behind E S from hs w0 ws long
    ∙ ap (λ k. w0 ++ all_filled E S k hs ws) long
