use Rattle.std.proofs.Common.{◌≡◌, ◌∙◌, ap, sym, map, length, arith}
use Rattle.std.specs.Prelude.{◌==◌}
use Rattle.placed_code.specs.Words.{copies_words}
use Rattle.placed_code.specs.Layout.{jump_width, first_of, last_width}
use Rattle.placed_code.proofs.Parts.{length_map}
use Rattle.link_layout.specs.Spots.{copy_of}
use Rattle.link_blocks.specs.Plans.{block_in, placed_in}
use Rattle.procedure_code.proofs.Measures.{frame_is, is_frame_of, jump_turned}
use Rattle.procedure_code.proofs.measuring.front_width.Goals as goal
use Rattle.link_layout.proofs.Placing.{ok_more}
use Rattle.link_layout.proofs.Placing.{err_more}
use Rattle.link_layout.proofs.Placing.{err_so}

pub returns-in_err-width-clause-limit : goal.returns-in_err-width-clause-limit
returns-in_err-width-clause-limit c =
    let p = c.args.plan.now in
    let a = c.prologue_width.ensures.width (placed_in p) (frame_is p) in
    let b = c.in_ok-copies.ensures.width (placed_in p) (is_frame_of p) ∙ ap (λ ms. length (copies_words (placed_in p) (map copy_of ms))) c.as_slice.ensures in
    err_so _ c.from_residual-in_err-width.result c.from_residual-in_err-width.ensures.0 (λ e. omega (arith, a, b, c.in_err-width.ensures.limit))

pub returns-clause-width : goal.returns-clause-width
returns-clause-width c =
    let p = c.args.plan.now in
    let a = c.prologue_width.ensures.width (placed_in p) (frame_is p) in
    let b = c.in_ok-copies.ensures.width (placed_in p) (is_frame_of p) ∙ ap (λ ms. length (copies_words (placed_in p) (map copy_of ms))) c.as_slice.ensures in
    let first : c.first_in.result ≡ first_of (length (placed_in p).blocks) p.order = c.first_in.ensures ∙ ap (λ n. first_of n p.order) (sym (length_map block_in p.blocks)) in
    let e = c.end_width.ensures.width (placed_in p) (frame_is p) ∙ ap (λ end. last_width c.first_in.result (placed_in p) end) c.to_the_first.ensures ∙ jump_turned c.first_in.result ∙ ap (λ n. jump_width (n == 0)) first in
    ok_more _ _ c.add-2.result (λ width h. omega (arith, a, b, e, h, c.in_ok-width.ensures.sum)) c.add-2.ensures.sum

pub returns-clause-limit : goal.returns-clause-limit
returns-clause-limit c =
    let p = c.args.plan.now in
    let a = c.prologue_width.ensures.width (placed_in p) (frame_is p) in
    let b = c.in_ok-copies.ensures.width (placed_in p) (is_frame_of p) ∙ ap (λ ms. length (copies_words (placed_in p) (map copy_of ms))) c.as_slice.ensures in
    let first : c.first_in.result ≡ first_of (length (placed_in p).blocks) p.order = c.first_in.ensures ∙ ap (λ n. first_of n p.order) (sym (length_map block_in p.blocks)) in
    let e = c.end_width.ensures.width (placed_in p) (frame_is p) ∙ ap (λ end. last_width c.first_in.result (placed_in p) end) c.to_the_first.ensures ∙ jump_turned c.first_in.result ∙ ap (λ n. jump_width (n == 0)) first in
    err_more _ _ c.add-2.result (λ fault h. omega (arith, a, b, e, h, c.in_ok-width.ensures.sum)) c.add-2.ensures.limit
