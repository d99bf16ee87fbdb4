-- Numbers of four bytes.
use Rattle.std.proofs.Common.{◌≡◌, ℕ, zero, suc, ◌+◌, ◌*◌, ◌^◌, ◌<◌, ◌≤◌, List, [], ◌∷◌, ◌++◌, length, get_or, take, drop, refl, sym, ap, ◌∙◌, arith, inl, inr}
use Rattle.std.specs.List.{flat_map}
use Rattle.std.specs.Int.{w32, from_le_bytes}
use Rattle.std.proofs.Math.Seq.{take-add}
use Rattle.std.proofs.lemmas.Bool.{cases_lt}
use Rattle.std.proofs.lemmas.Grind.{flat_map-append}
use Rattle.std.proofs.lemmas.List.{append-nil, take-append-drop, length-take-le, length-drop, get_or-drop, get_or-take, get_or_past, drop-drop}
use Rattle.std.proofs.lemmas.Nat.{le_bytes_4, from_le_bytes-to_le_bytes_4}
use Rattle.image_file.specs.Spelling.{number, AreWords}
use Rattle.image_file.specs.Rules.{field}

abbrev pub AreBytes : List ℕ → Type 0
AreBytes bytes = (i : ℕ) → get_or bytes i 0 < 256

AreBytes-drop : (n : ℕ) (bytes : List ℕ) → AreBytes bytes → AreBytes (drop n bytes)
AreBytes-drop n bytes h i = rw get_or-drop (h (n + i))

AreBytes-take : (n : ℕ) (bytes : List ℕ) → AreBytes bytes → AreBytes (take n bytes)
AreBytes-take n bytes h i =
    elim (cases_lt i n) [
      | inl lt ↦ rw (get_or-take n bytes i 0 lt) (h i)
      | inr le ↦ rw (get_or_past (take n bytes) i 0 (omega (arith, length-take-at n bytes))) (omega arith)
    ]
  where
    length-take-at : (n : ℕ) (bytes : List ℕ) → length (take n bytes) ≤ n
    length-take-at zero bytes = omega arith
    length-take-at (suc n) [] = omega arith
    length-take-at (suc n) (b ∷ bytes) = omega (arith, length-take-at n bytes)

-- the number that was read is the bytes that were there
pub number_back : (bytes : List ℕ) (at : ℕ) → AreBytes bytes → at + 4 ≤ length bytes → number (field bytes at) ≡ take 4 (drop at bytes)
number_back bytes at fits long =
    le_bytes_4 (take 4 (drop at bytes)) (field bytes at) (length-take-le 4 (drop at bytes) (omega (arith, length-drop at bytes))) (AreBytes-take 4 (drop at bytes) (AreBytes-drop at bytes fits)) refl

-- so it stands there, before what follows
pub number_then : (bytes : List ℕ) (at : ℕ) → AreBytes bytes → at + 4 ≤ length bytes → drop at bytes ≡ number (field bytes at) ++ drop (at + 4) bytes
number_then bytes at fits long =
    sym (take-append-drop 4 (drop at bytes)) ∙ ap (λ (xs : List ℕ). xs ++ drop 4 (drop at bytes)) (sym (number_back bytes at fits long)) ∙ ap (λ (xs : List ℕ). number (field bytes at) ++ xs) (drop-drop 4 at bytes)

-- and has 32 bits
pub number_below : (bytes : List ℕ) (at : ℕ) → AreBytes bytes → field bytes at < 2 ^ 32
number_below bytes at fits =
    let four = AreBytes-take 4 (drop at bytes) (AreBytes-drop at bytes fits) in
    omega (arith, four 0, four 1, four 2, four 3)

-- one number more
pub numbers_more : (bytes : List ℕ) (from : ℕ) (code : List ℕ) (i : ℕ) → AreBytes bytes → (from + 4 * i) + 4 ≤ length bytes → flat_map number code ≡ take (4 * i) (drop from bytes)
    → flat_map number (code ++ field bytes (from + 4 * i) ∷ []) ≡ take (4 * (i + 1)) (drop from bytes)
numbers_more bytes from code i fits long so_far =
    flat_map-append number code (field bytes (from + 4 * i) ∷ [])
    ∙ ap (λ (xs : List ℕ). flat_map number code ++ xs) (append-nil (number (field bytes (from + 4 * i))) ∙ number_back bytes (from + 4 * i) fits long)
    ∙ ap (λ (xs : List ℕ). xs ++ take 4 (drop (from + 4 * i) bytes)) so_far
    ∙ ap (λ (xs : List ℕ). take (4 * i) (drop from bytes) ++ take 4 xs) (sym (drop-drop (4 * i) from bytes))
    ∙ sym (take-add (4 * i) 4 (drop from bytes))
    ∙ ap (λ (k : ℕ). take k (drop from bytes)) (omega arith)

pub words_more : (code : List ℕ) (word : ℕ) → AreWords code → word < 2 ^ 32 → AreWords (code ++ word ∷ [])
words_more [] word are below = (below, tt)
words_more (w ∷ code) word are below = (are.0, words_more code word are.1 below)

-- what a number spells, read again
pub number_again : (n : ℕ) → n < 2 ^ 32 → from_le_bytes w32 (number n) ≡ n
number_again n below = from_le_bytes-to_le_bytes_4 n below

-- words that are spelled alike are the same
pub words_are_same : (xs ys : List ℕ) → AreWords xs → AreWords ys → flat_map number xs ≡ flat_map number ys → xs ≡ ys
words_are_same [] [] are also same = refl
words_are_same [] (y ∷ ys) are also same = absurd cc
words_are_same (x ∷ xs) [] are also same = absurd cc
words_are_same (x ∷ xs) (y ∷ ys) are also same =
    let first : from_le_bytes w32 (number x) ≡ from_le_bytes w32 (number y) = ap (λ (l : List ℕ). from_le_bytes w32 (take 4 l)) same in
    let x_is : x ≡ y = sym (number_again x are.0) ∙ first ∙ number_again y also.0 in
    let others : xs ≡ ys = words_are_same xs ys are.1 also.1 (ap (λ (l : List ℕ). drop 4 l) same) in
    cc

-- a list of numbers of 32 bits
pub words_fit : (xs : List ℕ) → ((i : ℕ) → get_or xs i 0 < 2 ^ 32) → AreWords xs
words_fit [] fits = tt
words_fit (x ∷ xs) fits = (fits 0, words_fit xs (λ i. fits (suc i)))

-- a number has four bytes
pub length_of_words : (code : List ℕ) → length (flat_map number code) ≡ 4 * length code
length_of_words [] = refl
length_of_words (word ∷ code) = omega (arith, length_of_words code)
