use Rattle.std.proofs.Common.{◌++◌, ◌∷◌, [], map, length, ap, refl, sym, ◌∙◌, arith}
use Rattle.run_laws.specs.Layers.{spread}
use Rattle.a64_table.specs.Table.{word_of}
use Rattle.placed_code.specs.Layout.{block_width, placings}
use Rattle.placed_code.proofs.Linking.{all_size}
use Rattle.link_words.specs.Fields.{entry_in}
use Rattle.link_layout.proofs.Placing.{err_so}
use Rattle.link_blocks.specs.Plans.{placed_in}
use Rattle.procedure_pieces.specs.Code.{front_code, block_code}
use Rattle.procedure_code.specs.Parts.{entry_at}
use Rattle.procedure_code.specs.Holes.{hole_in}
use Rattle.procedure_code.proofs.Rows.{errs_with}
use Rattle.procedure_code.proofs.Alone.{front_long, long, some, in_order, made}
use Rattle.procedure_code.proofs.making.piece_of.Goals as goal

pub returns-in_err-measure-clause-limit : goal.returns-in_err-measure-clause-limit
returns-in_err-measure-clause-limit c =
    let s = all_size (placed_in c.args.plan.now ∷ []) in
    errs_with _ _ c.from_residual.result c.from_residual.ensures.1 (λ fault same limit. let g = c.in_err-measure.ensures.limit (sym same ∙ limit) in omega (arith, g, s))

pub returns-in_err-width-clause-limit : goal.returns-in_err-width-clause-limit
returns-in_err-width-clause-limit c =
    let s = all_size (placed_in c.args.plan.now ∷ []) in
    let g = c.in_err-width.ensures.limit c.args.plan.now c.in_ok-measure.ensures.measures in
    err_so _ c.from_residual-in_err-width.result c.from_residual-in_err-width.ensures.0 (λ fault limit. omega (arith, g, s))

pub push_blocks-requires-clause-near : goal.push_blocks-requires-clause-near
push_blocks-requires-clause-near c =
    let p = c.args.plan.now in
    let w0 = c.in_ok-words.words.items in
    let n = front_long p [] c.in_ok-places.places.items w0 c.push_front.new.words.items c.in_ok-words.ensures.items
    (c.in_ok-push_front.ensures ∙ ap (λ xs. w0 ++ map word_of (front_code (entry_in xs) (placed_in p) (length w0))) c.as_slice.ensures.value) in
    let w = c.in_ok-width.ensures.width p c.in_ok-measure.ensures.measures in
    omega (arith, n, w, c.in_ok-width.ensures.fits)

pub invariant_of-result-clause-some_words : goal.invariant_of-result-clause-some_words
invariant_of-result-clause-some_words c =
    let p = c.args.plan.now in
    let w0 = c.in_ok-words.words.items in
    let w1 = c.push_front.new.words.items in
    some p [] c.in_ok-places.places.items w0 w1 c.push_blocks.new.words.items (map hole_in c.new-holes.result.items) (map hole_in c.push_blocks.new.holes.items)
    refl c.in_ok-words.ensures.items (ap (map hole_in) c.new-holes.ensures.items)
    (c.in_ok-push_front.ensures ∙ ap (λ xs. w0 ++ map word_of (front_code (entry_in xs) (placed_in p) (length w0))) c.as_slice.ensures.value)
    (c.in_ok-push_blocks.ensures.words ∙ ap (λ xs. w1 ++ map word_of (spread (block_code (entry_at []) 0 (entry_in xs) (placed_in p)) (block_width (placed_in p)) 0 (length w1) (placings (placed_in p)))) c.as_slice-2.ensures.value)
    c.in_ok-push_blocks.ensures.holes

pub invariant_of-result-clause-few_words : goal.invariant_of-result-clause-few_words
invariant_of-result-clause-few_words c =
    let p = c.args.plan.now in
    let w0 = c.in_ok-words.words.items in
    let w1 = c.push_front.new.words.items in
    let l = long p [] c.in_ok-places.places.items w0 w1 c.push_blocks.new.words.items (map hole_in c.new-holes.result.items) (map hole_in c.push_blocks.new.holes.items)
    refl c.in_ok-words.ensures.items (ap (map hole_in) c.new-holes.ensures.items)
    (c.in_ok-push_front.ensures ∙ ap (λ xs. w0 ++ map word_of (front_code (entry_in xs) (placed_in p) (length w0))) c.as_slice.ensures.value)
    (c.in_ok-push_blocks.ensures.words ∙ ap (λ xs. w1 ++ map word_of (spread (block_code (entry_at []) 0 (entry_in xs) (placed_in p)) (block_width (placed_in p)) 0 (length w1) (placings (placed_in p)))) c.as_slice-2.ensures.value)
    c.in_ok-push_blocks.ensures.holes in
    let w = c.in_ok-width.ensures.width p c.in_ok-measure.ensures.measures in
    omega (arith, l, w, c.in_ok-width.ensures.fits)

pub invariant_of-result-clause-in_order : goal.invariant_of-result-clause-in_order
invariant_of-result-clause-in_order c =
    let p = c.args.plan.now in
    let w0 = c.in_ok-words.words.items in
    let w1 = c.push_front.new.words.items in
    in_order p [] c.in_ok-places.places.items w0 w1 c.push_blocks.new.words.items (map hole_in c.new-holes.result.items) (map hole_in c.push_blocks.new.holes.items)
    refl c.in_ok-words.ensures.items (ap (map hole_in) c.new-holes.ensures.items)
    (c.in_ok-push_front.ensures ∙ ap (λ xs. w0 ++ map word_of (front_code (entry_in xs) (placed_in p) (length w0))) c.as_slice.ensures.value)
    (c.in_ok-push_blocks.ensures.words ∙ ap (λ xs. w1 ++ map word_of (spread (block_code (entry_at []) 0 (entry_in xs) (placed_in p)) (block_width (placed_in p)) 0 (length w1) (placings (placed_in p)))) c.as_slice-2.ensures.value)
    c.in_ok-push_blocks.ensures.holes

pub returns-clause-piece : goal.returns-clause-piece
returns-clause-piece c whole =
    let p = c.args.plan.now in
    let w0 = c.in_ok-words.words.items in
    let w1 = c.push_front.new.words.items in
    made p [] c.in_ok-places.places.items w0 w1 c.push_blocks.new.words.items (map hole_in c.new-holes.result.items) (map hole_in c.push_blocks.new.holes.items)
    refl c.in_ok-words.ensures.items (ap (map hole_in) c.new-holes.ensures.items)
    (c.in_ok-push_front.ensures ∙ ap (λ xs. w0 ++ map word_of (front_code (entry_in xs) (placed_in p) (length w0))) c.as_slice.ensures.value)
    (c.in_ok-push_blocks.ensures.words ∙ ap (λ xs. w1 ++ map word_of (spread (block_code (entry_at []) 0 (entry_in xs) (placed_in p)) (block_width (placed_in p)) 0 (length w1) (placings (placed_in p)))) c.as_slice-2.ensures.value)
    c.in_ok-push_blocks.ensures.holes
    _ refl whole (c.in_ok-places.ensures.places whole)
