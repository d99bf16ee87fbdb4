-- One line or one step more.
use Rattle.std.proofs.Common.{◌≡◌, ◌<◌, ◌+◌, ◌++◌, ℕ, suc, List, length, drop, get_or, ap, ◌∙◌, arith}
use Rattle.std.proofs.lemmas.List.{drop_more}
use Rattle.trace_rows.specs.Cells.{word_line, word_lines}

pub word_more : (first i : ℕ) (words : List ℕ) → i < length words
    → word_lines (first + i) (drop i words) ≡ word_line (first + i) (get_or words i 0) ++ word_lines (first + (i + 1)) (drop (i + 1) words)
word_more first i words l =
    let e : suc (first + i) ≡ first + (i + 1) = omega arith in
    ap (word_lines (first + i)) (drop_more words i 0 l) ∙ ap (λ n. word_line (first + i) (get_or words i 0) ++ word_lines n (drop (i + 1) words)) e
