-- Sums of widths.
use Rattle.std.proofs.Common.{◌≡◌, ℕ, suc, ◌+◌, List, [], ◌∷◌, ◌++◌, refl, ap, ◌∙◌, arith}
use Rattle.std.specs.Prelude.{sum, flat_map}
use Rattle.std.proofs.lemmas.List.Sums.{sum_by-cons, sum_by-append}
use Rattle.run_laws.specs.Layers.{whole_width}
use Rattle.placed_code.specs.Placed.{Placed, block_of}
use Rattle.placed_code.specs.Layout.{Placing, placings, cell_width, end_width, block_width, front_width, proc_width}
use Rattle.link_layout.specs.Widths.{widths_of}
use Rattle.line_words.specs.LineWidths.{block_widths, line_widths}

sum_first : (x : ℕ) (xs : List ℕ) → sum (x ∷ xs) ≡ x + sum xs
sum_first x xs = sum_by-cons (λ n. n) x xs

sum_append : (xs ys : List ℕ) → sum (xs ++ ys) ≡ sum xs + sum ys
sum_append xs ys = sum_by-append (λ n. n) xs ys

sum_widths : {A : Type 0} (width : ℕ → A → ℕ) (j : ℕ) (xs : List A) → sum (widths_of width j xs) ≡ whole_width width j xs
sum_widths width j [] = refl
sum_widths width j (x ∷ xs) = sum_first (width j x) (widths_of width (suc j) xs) ∙ ap (λ n. width j x + n) (sum_widths width (suc j) xs)

sum_block : (pr : Placed) (j : ℕ) (at : Placing) → sum (block_widths pr at) ≡ block_width pr j at
sum_block pr j at =
    let cells = widths_of (cell_width pr) 0 (block_of pr at.number).body in
    let last = end_width pr at.next (block_of pr at.number) in
    let one : sum (last ∷ []) ≡ last = sum_first last [] ∙ omega arith in
    sum_append cells (last ∷ []) ∙ ap (λ n. n + sum (last ∷ [])) (sum_widths (cell_width pr) 0 (block_of pr at.number).body)
    ∙ ap (λ n. whole_width (cell_width pr) 0 (block_of pr at.number).body + n) one

sum_blocks : (pr : Placed) (j : ℕ) (ats : List Placing) → sum (flat_map (block_widths pr) ats) ≡ whole_width (block_width pr) j ats
sum_blocks pr j [] = refl
sum_blocks pr j (at ∷ ats) =
    sum_append (block_widths pr at) (flat_map (block_widths pr) ats) ∙ ap (λ n. n + sum (flat_map (block_widths pr) ats)) (sum_block pr j at)
    ∙ ap (λ n. block_width pr j at + n) (sum_blocks pr (suc j) ats)

pub sum_lines : (p : ℕ) (pr : Placed) → sum (line_widths pr) ≡ proc_width p pr
sum_lines p pr = sum_first (front_width pr) (flat_map (block_widths pr) (placings pr)) ∙ ap (λ n. front_width pr + n) (sum_blocks pr 0 (placings pr))
