-- Bytes one by one.
use Rattle.std.proofs.Common.{◌≡◌, ℕ, zero, suc, ◌+◌, ◌-◌, ◌*◌, ◌/◌, ◌%◌, ◌<◌, ◌≤◌, ◌≢◌, Bool, true, false, not, eqb, List, [], ◌∷◌, ◌++◌, length, get_or, Option, Some, None, refl, sym, ap, ap₂, subst, ◌∙◌, length-append, arith}
use Rattle.std.specs.Prelude.{slice_get}
use Rattle.std.specs.List.{flat_map}
use Rattle.std.specs.Option.{option_eq}
use Rattle.std.proofs.lemmas.Bool.{eqb-true, eq-eqb}
use Rattle.std.proofs.lemmas.List.{append-nil}
use Rattle.image_form.specs.declared.image.Image.{Image}
use Rattle.image_file.specs.Spelling.{mark, number, image_bytes, in_version_one}
use Rattle.image_file.proofs.Numbers.{length_of_words}

-- an item that is there
pub got : (xs : List ℕ) (i d : ℕ) → i < length xs → slice_get xs i ≡ Some (get_or xs i d)
got [] i d lt = absurd (omega (arith, lt))
got (x ∷ xs) zero d lt = refl
got (x ∷ xs) (suc i) d lt = got xs i d (omega (arith, lt))

-- an item of two parts
pub got_before : (xs ys : List ℕ) (i : ℕ) → i < length xs → slice_get (xs ++ ys) i ≡ slice_get xs i
got_before [] ys i lt = absurd (omega (arith, lt))
got_before (x ∷ xs) ys zero lt = refl
got_before (x ∷ xs) ys (suc i) lt = got_before xs ys i (omega (arith, lt))

pub got_behind : (xs ys : List ℕ) (i : ℕ) → length xs ≤ i → slice_get (xs ++ ys) i ≡ slice_get ys (i - length xs)
got_behind [] ys i le = ap (λ (k : ℕ). slice_get ys k) (omega arith)
got_behind (x ∷ xs) ys zero le = absurd (omega (arith, le))
got_behind (x ∷ xs) ys (suc i) le =
    let one : i - length xs ≡ suc i - suc (length xs) = omega arith in
    got_behind xs ys i (omega (arith, le)) ∙ ap (λ (k : ℕ). slice_get ys k) one

-- a byte of words is a byte of one of them
pub byte_of_words : (words : List ℕ) (at : ℕ) → at < 4 * length words → slice_get (flat_map number words) at ≡ slice_get (number (get_or words (at / 4) 0)) (at % 4)
byte_of_words [] at lt = absurd (omega (arith, lt))
byte_of_words (w ∷ ws) zero lt = refl
byte_of_words (w ∷ ws) (suc zero) lt = refl
byte_of_words (w ∷ ws) (suc (suc zero)) lt = refl
byte_of_words (w ∷ ws) (suc (suc (suc zero))) lt = refl
byte_of_words (w ∷ ws) (suc (suc (suc (suc n)))) lt =
    let word : suc (n / 4) ≡ suc (suc (suc (suc n))) / 4 = omega arith in
    let byte : n % 4 ≡ suc (suc (suc (suc n))) % 4 = omega arith in
    byte_of_words ws n (omega (arith, lt)) ∙ ap₂ (λ (i j : ℕ). slice_get (number (get_or (w ∷ ws) i 0)) j) word byte

-- lists that are the same up to the end of one are the same
pub same_lists : (xs ys : List ℕ) → ((k : ℕ) → k ≤ length ys → slice_get xs k ≡ slice_get ys k) → xs ≡ ys
same_lists [] [] same = refl
same_lists [] (y ∷ ys) same = absurd (let first = same 0 (omega arith) in cc)
same_lists (x ∷ xs) [] same = absurd (let first = same 0 (omega arith) in cc)
same_lists (x ∷ xs) (y ∷ ys) same =
    let first : x ≡ y = let e = same 0 (omega arith) in cc in
    ap₂ (λ (z : ℕ) (zs : List ℕ). z ∷ zs) first (same_lists xs ys (λ k le. same (suc k) (omega (arith, le))))

-- the numbers of a header of version 1
abbrev pub first_numbers : Image → List ℕ
first_numbers image = 1 ∷ image.flags ∷ length image.code ∷ image.globals ∷ length image.constants ∷ image.frame ∷ []

-- the layout in version 1
abbrev pub layout : List ℕ → List ℕ → List ℕ → List ℕ
layout header code constants = mark ++ flat_map number header ++ flat_map number code ++ constants

pub layout_is : (image : Image) → layout (first_numbers image) image.code image.constants ≡ image_bytes (in_version_one image)
unfolding image_bytes
layout_is image = sym (append-nil (layout (first_numbers image) image.code image.constants))

-- the byte of the layout with which one is compared
pub compared : (image : Image) (code constants : List ℕ) (at : ℕ) (b : Option ℕ) → code ≡ image.code → constants ≡ image.constants
    → b ≡ slice_get (layout (1 ∷ image.flags ∷ length code ∷ image.globals ∷ length constants ∷ image.frame ∷ []) code constants) at → b ≡ slice_get (image_bytes (in_version_one image)) at
compared image code constants at b same also is =
    is ∙ ap₂ (λ (ws cs : List ℕ). slice_get (layout (1 ∷ image.flags ∷ length ws ∷ image.globals ∷ length cs ∷ image.frame ∷ []) ws cs) at) same also ∙ ap (λ (xs : List ℕ). slice_get xs at) (layout_is image)

-- where its code and its constants stand
pub code_byte : (header code constants : List ℕ) (at : ℕ) → length header ≡ 6 → 32 ≤ at → at < 32 + 4 * length code → slice_get (layout header code constants) at ≡ slice_get (flat_map number code) (at - 32)
code_byte header code constants at six le lt =
    let front : length (mark ++ flat_map number header) ≡ 32 = omega (arith, length_of_words header, six) in
    let words = length-append (mark ++ flat_map number header) (flat_map number code) in
    got_before (mark ++ flat_map number header ++ flat_map number code) constants at (omega (arith, words, front, length_of_words code, lt))
    ∙ got_behind (mark ++ flat_map number header) (flat_map number code) at (omega (arith, front, le))
    ∙ ap (λ (k : ℕ). slice_get (flat_map number code) (at - k)) front

pub constant_byte : (header code constants : List ℕ) (at : ℕ) → length header ≡ 6 → 32 + 4 * length code ≤ at → slice_get (layout header code constants) at ≡ slice_get constants (at - 32 - 4 * length code)
constant_byte header code constants at six le =
    let front : length (mark ++ flat_map number header) ≡ 32 = omega (arith, length_of_words header, six) in
    let words = length-append (mark ++ flat_map number header) (flat_map number code) in
    let all : length (mark ++ flat_map number header ++ flat_map number code) ≡ 32 + 4 * length code = omega (arith, words, front, length_of_words code) in
    let rest : at - (32 + 4 * length code) ≡ at - 32 - 4 * length code = omega arith in
    got_behind (mark ++ flat_map number header ++ flat_map number code) constants at (omega (arith, all, le)) ∙ ap (λ (k : ℕ). slice_get constants (at - k)) all ∙ ap (λ (k : ℕ). slice_get constants k) rest

-- bytes that are compared
pub same_byte : (a b : Option ℕ) → false ≡ not (option_eq eqb a b) → a ≡ b
same_byte None None e = refl
same_byte None (Some y) e = absurd cc
same_byte (Some x) None e = absurd cc
same_byte (Some x) (Some y) e = ap (λ (n : ℕ). Some n) (eqb-true x y (twice (eqb x y) e))
  where
    twice : (b : Bool) → false ≡ not b → b ≡ true
    twice true h = refl
    twice false h = absurd cc

pub other_byte : (a b : Option ℕ) → true ≡ not (option_eq eqb a b) → a ≢ b
other_byte a b e same = let both : true ≡ not (option_eq eqb a a) = subst (λ (o : Option ℕ). true ≡ not (option_eq eqb a o)) (sym same) e in never (both ∙ ap not (itself a))
  where
    itself : (o : Option ℕ) → option_eq eqb o o ≡ true
    itself None = refl
    itself (Some x) = eq-eqb x x refl

    never : true ≡ false → ⊥
    never h = cc
