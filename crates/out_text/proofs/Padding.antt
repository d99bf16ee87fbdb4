-- Blanks and digits are the text.
use Rattle.std.proofs.Common.{◌≡◌, ℕ, ◌+◌, ◌-◌, ◌≤◌, List, ◌++◌, length, take, arith, ap, ◌∙◌}
use Rattle.std.specs.Prelude.{replicate}
use Rattle.std.proofs.lemmas.List.{take-replicate}
use Rattle.std.proofs.lemmas.Bool.Decides.{nat_tests}
use Rattle.out_text.specs.Text.{int_text, shortest_text, counted_width}

counted_width_le : (width : ℕ) → counted_width width ≤ 255
counted_width_le width = grind (arith, nat_tests)

pub padded : (bytes digits : List ℕ) (value width from most : ℕ) → most ≡ 255 → digits ≡ shortest_text value → from ≡ counted_width width - length digits → take (from + length digits) bytes ≡ take from (replicate most 32) ++ digits → take (from + length digits) bytes ≡ int_text value width
padded bytes digits value width from most all is at h =
    let narrow = counted_width_le width in
    let fits : from ≤ most = omega arith in
    let blanks : replicate from 32 ≡ replicate (counted_width width - length (shortest_text value)) 32 = ap (λ n. replicate n 32) (at ∙ ap (λ d. counted_width width - length d) is) in
    h ∙ ap (λ l. l ++ digits) (take-replicate from most 32 fits ∙ blanks) ∙ ap (λ d. replicate (counted_width width - length (shortest_text value)) 32 ++ d) is
