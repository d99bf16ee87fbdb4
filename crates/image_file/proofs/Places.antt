-- Places of procedures and their bytes.
use Rattle.std.proofs.Common.{◌≡◌, ℕ, suc, ◌+◌, ◌-◌, ◌*◌, ◌^◌, ◌<◌, ◌≤◌, true, false, List, [], ◌∷◌, ◌++◌, length, get_or, take, drop, Some, None, refl, sym, ap, ap₂, subst, ◌∙◌, arith}
use Rattle.std.specs.Prelude.{nat_le, nat_lt}
use Rattle.std.specs.List.{flat_map}
use Rattle.std.specs.Int.{w32, from_le_bytes}
use Rattle.std.proofs.lemmas.Bool.{leb-true, le-leb, ltb-true, lt-ltb}
use Rattle.std.proofs.lemmas.Grind.{flat_map-append}
use Rattle.std.proofs.Math.Seq.{take-add, take-suc}
use Rattle.std.proofs.lemmas.List.{drop-drop}
use Rattle.image_form.specs.declared.image.ProcPlace.{ProcPlace}
use Rattle.image_form.specs.Places.{RiseBelow}
use Rattle.image_file.specs.Spelling.{number, numbers_of, place_numbers, AreWords}
use Rattle.image_file.specs.Rules.{first_of, field, bad_place, is_next, place_rules}
use Rattle.image_file.proofs.Numbers.{AreBytes, number_again, number_then, number_below, length_of_words}
use Rattle.image_file.proofs.Kept.{both, both_true, one_kept, one_on, one_broken}

abbrev pub place_bytes : List ProcPlace → List ℕ
place_bytes places = flat_map number (place_numbers places)

-- a place has three numbers
length_of_numbers : (places : List ProcPlace) → length (place_numbers places) ≡ 3 * length places
length_of_numbers [] = refl
length_of_numbers (p ∷ ps) = omega (arith, length_of_numbers ps)

pub length_of_places : (places : List ProcPlace) → length (place_bytes places) ≡ 12 * length places
length_of_places places = omega (arith, length_of_words (place_numbers places), length_of_numbers places)

---- Reading

-- the place that was read is the bytes that were there
pub place_then : (bytes : List ℕ) (at : ℕ) → AreBytes bytes → at + 12 ≤ length bytes
    → flat_map number (numbers_of (record { word = field bytes at; «module» = field bytes (at + 4); line = field bytes (at + 8) })) ≡ take 12 (drop at bytes)
place_then bytes at fits long =
    let second : at + 4 + 4 ≡ at + 8 = omega arith in
    sym (ap (λ (xs : List ℕ). take 12 xs) (number_then bytes at fits (omega (arith, long))
    ∙ ap (λ (xs : List ℕ). number (field bytes at) ++ xs) (number_then bytes (at + 4) fits (omega (arith, long)) ∙ ap (λ (k : ℕ). number (field bytes (at + 4)) ++ drop k bytes) second
    ∙ ap (λ (xs : List ℕ). number (field bytes (at + 4)) ++ xs) (number_then bytes (at + 8) fits (omega (arith, long))))))

pub place_below : (bytes : List ℕ) (at : ℕ) → AreBytes bytes → AreWords (numbers_of (record { word = field bytes at; «module» = field bytes (at + 4); line = field bytes (at + 8) }))
place_below bytes at fits = (number_below bytes at fits, (number_below bytes (at + 4) fits, (number_below bytes (at + 8) fits, tt)))

-- one place more
pub places_more : (bytes : List ℕ) (from : ℕ) (places : List ProcPlace) (i : ℕ) (p : ProcPlace) → place_bytes places ≡ take (12 * i) (drop from bytes) → flat_map number (numbers_of p) ≡ take 12 (drop (from + 12 * i) bytes)
    → place_bytes (places ++ p ∷ []) ≡ take (12 * (i + 1)) (drop from bytes)
places_more bytes from places i p so_far next =
    ap (λ (ns : List ℕ). flat_map number ns) (flat_map-append numbers_of places (p ∷ []))
    ∙ flat_map-append number (place_numbers places) (numbers_of p)
    ∙ ap (λ (xs : List ℕ). place_bytes places ++ xs) next
    ∙ ap (λ (xs : List ℕ). xs ++ take 12 (drop (from + 12 * i) bytes)) so_far
    ∙ ap (λ (xs : List ℕ). take (12 * i) (drop from bytes) ++ take 12 xs) (sym (drop-drop (12 * i) from bytes))
    ∙ sym (take-add (12 * i) 12 (drop from bytes))
    ∙ ap (λ (k : ℕ). take k (drop from bytes)) (omega arith)

pub numbers_more : (places : List ProcPlace) (p : ProcPlace) → AreWords (place_numbers places) → AreWords (numbers_of p) → AreWords (place_numbers (places ++ p ∷ []))
numbers_more [] p are also = also
numbers_more (q ∷ qs) p are also = (are.0, (are.1.0, (are.1.1.0, numbers_more qs p are.1.1.1 also)))

-- places up to one more
pub place_bytes_more : (places : List ProcPlace) (i : ℕ) (d : ProcPlace) → i < length places → place_bytes (take (i + 1) places) ≡ place_bytes (take i places) ++ flat_map number (numbers_of (get_or places i d))
place_bytes_more places i d lt =
    let more : i + 1 ≡ suc i = omega arith in
    ap (λ (k : ℕ). place_bytes (take k places)) more ∙ ap place_bytes (take-suc places i d lt) ∙ ap (λ (ns : List ℕ). flat_map number ns) (flat_map-append numbers_of (take i places) (get_or places i d ∷ []))
    ∙ flat_map-append number (place_numbers (take i places)) (numbers_of (get_or places i d))

pub numbers_more_read : (places : List ProcPlace) (i : ℕ) (d : ProcPlace) → i < length places → AreWords (place_numbers (take i places)) → AreWords (numbers_of (get_or places i d)) → AreWords (place_numbers (take (i + 1) places))
numbers_more_read places i d lt are also =
    let more : suc i ≡ i + 1 = omega arith in
    subst (λ (k : ℕ). AreWords (place_numbers (take k places))) more
    (subst (λ (ps : List ProcPlace). AreWords (place_numbers ps)) (sym (take-suc places i d lt)) (numbers_more (take i places) (get_or places i d) are also))

-- places that are spelled alike are the same
pub places_are_same : (ps qs : List ProcPlace) → place_numbers ps ≡ place_numbers qs → ps ≡ qs
places_are_same [] [] same = refl
places_are_same [] (q ∷ qs) same = absurd cc
places_are_same (p ∷ ps) [] same = absurd cc
places_are_same (p ∷ ps) (q ∷ qs) same =
    let word : p.word ≡ q.word = cc in
    let module' : p.«module» ≡ q.«module» = cc in
    let line : p.line ≡ q.line = cc in
    let others : place_numbers ps ≡ place_numbers qs = cc in
    ap₂ (λ (r : ProcPlace) (rs : List ProcPlace). r ∷ rs) (same_place p q word module' line) (places_are_same ps qs others)
  where
    same_place : (p q : ProcPlace) → p.word ≡ q.word → p.«module» ≡ q.«module» → p.line ≡ q.line → p ≡ q
    same_place p q a b c = λ i. record { word = a i; «module» = b i; line = c i }

---- The rules of places

-- in bytes in which places stand from a byte on, the first word is there, and the others behind it
next_word : (bytes : List ℕ) (at : ℕ) (p : ProcPlace) (ps : List ProcPlace) (rest : List ℕ) → p.word < 2 ^ 32 → drop at bytes ≡ place_bytes (p ∷ ps) ++ rest → field bytes at ≡ p.word
next_word bytes at p ps rest low here = ap (λ (xs : List ℕ). from_le_bytes w32 (take 4 xs)) here ∙ number_again p.word low

next_places : (bytes : List ℕ) (at : ℕ) (p : ProcPlace) (ps : List ProcPlace) (rest : List ℕ) → drop at bytes ≡ place_bytes (p ∷ ps) ++ rest → drop (at + 12) bytes ≡ place_bytes ps ++ rest
next_places bytes at p ps rest here = sym (drop-drop 12 at bytes) ∙ ap (λ (xs : List ℕ). drop 12 xs) here

-- where they rise, no rule is broken
pub rise_keeps : (bytes : List ℕ) (words at least : ℕ) (places : List ProcPlace) (rest : List ℕ) → words ≤ 2 ^ 32 → drop at bytes ≡ place_bytes places ++ rest → RiseBelow words least places
    → first_of (place_rules bytes words at least (length places)) ≡ None
rise_keeps bytes words at least [] rest few here rise = refl
rise_keeps bytes words at least (p ∷ ps) rest few here rise =
    let is : field bytes at ≡ p.word = next_word bytes at p ps rest (omega (arith, rise.1, few)) here in
    let holds : (is_next words least (field bytes at)) ≡ true =
    both (nat_le least (field bytes at)) (nat_lt (field bytes at) words) (le-leb least (field bytes at) (omega (arith, is, rise.0))) (lt-ltb (field bytes at) words (omega (arith, is, rise.1))) in
    one_on (is_next words least (field bytes at)) bad_place at (place_rules bytes words (at + 12) (suc (field bytes at)) (length ps)) holds
    ∙ ap (λ (n : ℕ). first_of (place_rules bytes words (at + 12) (suc n) (length ps))) is
    ∙ rise_keeps bytes words (at + 12) (suc p.word) ps rest few (next_places bytes at p ps rest here) rise.2

-- and where no rule is broken, they rise
pub kept_rise : (bytes : List ℕ) (words at least : ℕ) (places : List ProcPlace) (rest : List ℕ) → AreWords (place_numbers places) → drop at bytes ≡ place_bytes places ++ rest
    → first_of (place_rules bytes words at least (length places)) ≡ None → RiseBelow words least places
kept_rise bytes words at least [] rest are here none = tt
kept_rise bytes words at least (p ∷ ps) rest are here none =
    let is : field bytes at ≡ p.word = next_word bytes at p ps rest are.0 here in
    let kept = one_kept (is_next words least (field bytes at)) bad_place at (place_rules bytes words (at + 12) (suc (field bytes at)) (length ps)) none in
    let tests = both_true (nat_le least (field bytes at)) (nat_lt (field bytes at) words) kept.0 in
    let low : least ≤ field bytes at = leb-true least (field bytes at) tests.0 in
    let high : field bytes at < words = ltb-true (field bytes at) words tests.1 in
    let others = subst (λ (n : ℕ). first_of (place_rules bytes words (at + 12) (suc n) (length ps)) ≡ None) is kept.1 in
    (omega (arith, is, low), omega (arith, is, high), kept_rise bytes words (at + 12) (suc p.word) ps rest are.1.1.1 (next_places bytes at p ps rest here) others)

---- Testing one place after the other

pub place_passed : (bytes : List ℕ) (words from least count i : ℕ) → i < count → is_next words least (field bytes (from + 12 * i)) ≡ true
    → first_of (place_rules bytes words (from + 12 * i) least (count - i)) ≡ first_of (place_rules bytes words (from + 12 * (i + 1)) (field bytes (from + 12 * i) + 1) (count - (i + 1)))
place_passed bytes words from least count i lt holds =
    let at = from + 12 * i in
    let more : count - i ≡ suc (count - (i + 1)) = omega (arith, lt) in
    let next : at + 12 ≡ from + 12 * (i + 1) = omega arith in
    let above : suc (field bytes at) ≡ field bytes at + 1 = omega arith in
    ap (λ (n : ℕ). first_of (place_rules bytes words at least n)) more
    ∙ one_on (is_next words least (field bytes at)) bad_place at (place_rules bytes words (at + 12) (suc (field bytes at)) (count - (i + 1))) holds
    ∙ ap₂ (λ (k w : ℕ). first_of (place_rules bytes words k w (count - (i + 1)))) next above

pub place_refused : (bytes : List ℕ) (words from least count i : ℕ) → i < count → is_next words least (field bytes (from + 12 * i)) ≡ false
    → first_of (place_rules bytes words (from + 12 * i) least (count - i)) ≡ Some (record { number = bad_place; at = from + 12 * i })
place_refused bytes words from least count i lt broken =
    let at = from + 12 * i in
    let more : count - i ≡ suc (count - (i + 1)) = omega (arith, lt) in
    ap (λ (n : ℕ). first_of (place_rules bytes words at least n)) more
    ∙ one_broken (is_next words least (field bytes at)) bad_place at (place_rules bytes words (at + 12) (suc (field bytes at)) (count - (i + 1))) broken
