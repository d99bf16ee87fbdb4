-- Moves that are there, appended one after the other.
use Rattle.std.proofs.Common.{◌≡◌, ℕ, List, [], ◌∷◌, ◌++◌, map, Option, Some, None, refl, ap, ◌∙◌, append_assoc, get_or}
use Rattle.a64_numbers.specs.Moves.{given, half_moves, more_ones, constant_moves}
use Rattle.a64_numbers.specs.declared.moves.Move.{Move}
use Rattle.a64_instr.specs.declared.instr.Instr.{Instr}
use Rattle.a64_table.specs.Table.{word_of}
use Rattle.placed_code.specs.Words.{move_word}

abbrev words_given : ℕ → List (Option Move) → List ℕ
words_given d ms = map word_of (map (move_word d) (given ms))

one_given : (d : ℕ) (m : Option Move) (ms : List (Option Move)) → words_given d (m ∷ []) ++ words_given d ms ≡ words_given d (m ∷ ms)
one_given d None ms = refl
one_given d (Some m) ms = refl

pub four_pushed : (d : ℕ) (old one two three four : List ℕ) (w x y z : Option Move) (n : ℕ) (ms : List (Option Move)) → ms ≡ half_moves (more_ones n) n
    → one ≡ old ++ words_given d (get_or ms 0 w ∷ []) → two ≡ one ++ words_given d (get_or ms 1 x ∷ []) → three ≡ two ++ words_given d (get_or ms 2 y ∷ []) → four ≡ three ++ words_given d (get_or ms 3 z ∷ [])
    → four ≡ old ++ map word_of (map (move_word d) (constant_moves n))
four_pushed d old one two three four w x y z n ms is e1 e2 e3 e4 =
    let p = get_or ms 0 w in
    let q = get_or ms 1 x in
    let r = get_or ms 2 y in
    let s = get_or ms 3 z in
    let all : words_given d (p ∷ q ∷ r ∷ s ∷ []) ≡ map word_of (map (move_word d) (constant_moves n)) = ap (λ l. words_given d (get_or l 0 w ∷ get_or l 1 x ∷ get_or l 2 y ∷ get_or l 3 z ∷ [])) is in
    e4 ∙ ap (λ l. l ++ words_given d (s ∷ [])) (e3 ∙ ap (λ l. l ++ words_given d (r ∷ [])) (e2 ∙ ap (λ l. l ++ words_given d (q ∷ [])) e1))
    ∙ append_assoc ((old ++ words_given d (p ∷ [])) ++ words_given d (q ∷ [])) (words_given d (r ∷ [])) (words_given d (s ∷ []))
    ∙ ap (λ l. ((old ++ words_given d (p ∷ [])) ++ words_given d (q ∷ [])) ++ l) (one_given d r (s ∷ []))
    ∙ append_assoc (old ++ words_given d (p ∷ [])) (words_given d (q ∷ [])) (words_given d (r ∷ s ∷ []))
    ∙ ap (λ l. (old ++ words_given d (p ∷ [])) ++ l) (one_given d q (r ∷ s ∷ []))
    ∙ append_assoc old (words_given d (p ∷ [])) (words_given d (q ∷ r ∷ s ∷ []))
    ∙ ap (λ l. old ++ l) (one_given d p (q ∷ r ∷ s ∷ []) ∙ all)

map_words : (xs ys : List Instr) → map word_of xs ++ map word_of ys ≡ map word_of (xs ++ ys)
map_words [] ys = refl
map_words (x ∷ xs) ys = ap (λ l. word_of x ∷ l) (map_words xs ys)

-- words of instructions, and behind them those of others
pub then : (xs ys : List Instr) (old one two : List ℕ) → one ≡ old ++ map word_of xs → two ≡ one ++ map word_of ys → two ≡ old ++ map word_of (xs ++ ys)
then xs ys old one two e f = f ∙ ap (λ l. l ++ map word_of ys) e ∙ append_assoc old (map word_of xs) (map word_of ys) ∙ ap (λ l. old ++ l) (map_words xs ys)
