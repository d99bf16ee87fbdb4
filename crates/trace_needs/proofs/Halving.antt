-- Halving notes that stand in order of values finds what a search through a value's row finds.
use Rattle.std.proofs.Common.{◌≡◌, ℕ, zero, suc, ◌+◌, ◌-◌, ◌<◌, ◌≤◌, ◌⊎◌, inl, inr, Bool, true, false, cond, List, [], ◌∷◌, length, take, drop, get_or, Option, Some, None, refl, sym, ap, subst, ◌∙◌, arith}
use Rattle.std.specs.Prelude.{◌==◌, ◌&&◌, not, nat_lt, filter, map, slice_get, slice_index}
use Rattle.std.specs.Ordering.{is_lt, nat_cmp}
use Rattle.std.specs.List.{AllWithin}
use Rattle.std.specs.List.Sorted.{IsPartitionPoint, IsPartitionedBy, IsNonDecreasingBy, IsStableByKey, ties}
use Rattle.std.proofs.lemmas.Bool.Decides.{nat_tests}
use Rattle.std.proofs.lemmas.List.{get_or-drop, get_or_default, length-drop}
use Rattle.std.proofs.Math.Seq.{take-length}
use Rattle.trace_needs.specs.declared.notes.Note.{Note}
use Rattle.trace_needs.specs.Asked.{first_from, last_below, IsRising}
use Rattle.trace_needs.specs.Tables.{row_in, is_before, position_of}
use Rattle.trace_needs.proofs.Search.{le_test, not_le, lt_test, not_lt}

---- One note

abbrev pub Comes : ℕ → ℕ → ℕ → ℕ → Bool
Comes v p w q = cond (nat_lt w v) true (cond (w == v) (nat_lt q p) false)

behind_value : (v p w q : ℕ) → Comes v p w q ≡ false → v ≤ w
behind_value v p w q h = grind (arith, nat_tests)

behind_position : (v p w q : ℕ) → Comes v p w q ≡ false → w ≡ v → p ≤ q
behind_position v p w q h e = grind (arith, nat_tests)

before_value : (v p w q : ℕ) → Comes v p w q ≡ true → w ≤ v
before_value v p w q h = grind (arith, nat_tests)

before_position : (v p w q : ℕ) → Comes v p w q ≡ true → w ≡ v → q < p
before_position v p w q h e = grind (arith, nat_tests)

comes_lower : (v p w q : ℕ) → w < v → Comes v p w q ≡ true
comes_lower v p w q l = grind (arith, nat_tests)

comes_same : (v p w q : ℕ) → w ≡ v → q < p → Comes v p w q ≡ true
comes_same v p w q e l = grind (arith, nat_tests)

same_test : (a b : ℕ) → a ≡ b → (a == b) ≡ true
same_test a b e = grind (arith, nat_tests)

other_test : (a b : ℕ) → b < a → (a == b) ≡ false
other_test a b l = grind (arith, nat_tests)

same_number : (a b : ℕ) → (a == b) ≡ true → a ≡ b
same_number a b e = grind (arith, nat_tests)

other_number : (a b : ℕ) → (a == b) ≡ false → a ≤ b → a < b
other_number a b e l = grind (arith, nat_tests)

---- Notes in order

abbrev pub Ascend : List Note → Type 0
Ascend notes = IsNonDecreasingBy (λ (n : Note). n.value) notes

ascend_on : (x : Note) (xs : List Note) → Ascend (x ∷ xs) → Ascend xs
ascend_on x xs h i j d l m = h (suc i) (suc j) d (omega (arith, l)) (omega (arith, m))

first_least : (x : Note) (xs : List Note) → Ascend (x ∷ xs) → (j : ℕ) (d : Note) → j < length xs → x.value ≤ (get_or xs j d).value
first_least x xs h j d l = h 0 (suc j) d (omega arith) (omega (arith, l))

row_above : (xs : List Note) (v : ℕ) → ((j : ℕ) (d : Note) → j < length xs → v < (get_or xs j d).value) → row_in xs v ≡ []
row_above [] v h = refl
row_above (x ∷ xs) v h = ap (λ b. cond b (x.position ∷ row_in xs v) (row_in xs v)) (other_test x.value v (h 0 x (omega arith))) ∙ row_above xs v (λ j d l. h (suc j) d (omega (arith, l)))

---- Where a search ends

module _ (v limit : ℕ) where
  abbrev pub IsPoint : List Note → ℕ → Type 0
  IsPoint notes n = IsPartitionPoint (λ (n : Note). is_before v limit n ≡ true) (λ (n : Note). is_before v limit n ≡ false) notes n

  point_on : (x : Note) (xs : List Note) (n : ℕ) → IsPoint (x ∷ xs) (suc n) → IsPoint xs n
  point_on x xs n h = (λ k d l m. h.0 (suc k) d (omega arith) (omega (arith, m)), λ k d l m. h.1 (suc k) d (omega (arith, l)) (omega (arith, m)))

  point_behind : (x : Note) (xs : List Note) → IsPoint (x ∷ xs) 0 → IsPoint xs 0
  point_behind x xs h = (λ k d l m. absurd (omega (arith, m)), λ k d l m. h.1 (suc k) d (omega arith) (omega (arith, m)))

  head_before : (x : Note) (xs : List Note) (n : ℕ) → IsPoint (x ∷ xs) (suc n) → is_before v limit x ≡ true
  head_before x xs n h = h.0 0 x (omega arith) (omega arith)

  head_behind : (x : Note) (xs : List Note) → IsPoint (x ∷ xs) 0 → is_before v limit x ≡ false
  head_behind x xs h = h.1 0 x (omega arith) (omega arith)

  abbrev pub told : Option Note → Option ℕ
  told None = None
  told (Some n) = position_of v n

  first_found : (notes : List Note) (n : ℕ) → Ascend notes → n ≤ length notes → IsPoint notes n → first_from limit (row_in notes v) ≡ told (slice_get notes n)
  first_found [] n up le h = refl
  first_found (x ∷ xs) zero up le h = at_test (x.value == v) refl
    where
      at_test : (b : Bool) → (x.value == v) ≡ b → first_from limit (cond b (x.position ∷ row_in xs v) (row_in xs v)) ≡ cond b (Some x.position) None
      at_test true e = ap (λ b. cond b (Some x.position) (first_from limit (row_in xs v))) (le_test limit x.position (behind_position v limit x.value x.position (head_behind x xs h) (same_number x.value v e)))
      at_test false e =
          let low : v ≤ x.value = behind_value v limit x.value x.position (head_behind x xs h) in
          let above : v < x.value = grind (arith, nat_tests, e, low) in
          ap (first_from limit) (row_above xs v (λ j d l. let least = first_least x xs up j d l in omega (arith, above, least)))
  first_found (x ∷ xs) (suc n) up le h = at_test (x.value == v) refl (first_found xs n (ascend_on x xs up) (omega (arith, le)) (point_on x xs n h))
    where
      at_test : (b : Bool) → (x.value == v) ≡ b → first_from limit (row_in xs v) ≡ told (slice_get xs n) → first_from limit (cond b (x.position ∷ row_in xs v) (row_in xs v)) ≡ told (slice_get xs n)
      at_test true e on = ap (λ b. cond b (Some x.position) (first_from limit (row_in xs v))) (not_le limit x.position (before_position v limit x.value x.position (head_before x xs n h) (same_number x.value v e))) ∙ on
      at_test false e on = on

  none_found : (notes : List Note) (last : Option ℕ) → IsPoint notes 0 → last_below limit last (row_in notes v) ≡ last
  none_found [] last h = refl
  none_found (x ∷ xs) last h = at_test (x.value == v) refl (none_found xs last (point_behind x xs h))
    where
      at_test : (b : Bool) → (x.value == v) ≡ b → last_below limit last (row_in xs v) ≡ last → last_below limit last (cond b (x.position ∷ row_in xs v) (row_in xs v)) ≡ last
      at_test true e on = ap (λ b. last_below limit (cond b (Some x.position) last) (row_in xs v)) (not_lt x.position limit (behind_position v limit x.value x.position (head_behind x xs h) (same_number x.value v e))) ∙ on
      at_test false e on = on

  pub first_none : (notes : List Note) (n : ℕ) → Ascend notes → n ≤ length notes → IsPoint notes n → length notes ≤ n → first_from limit (row_in notes v) ≡ None
  first_none notes n up le h end = first_found notes n up le h ∙ ap told (past notes n end)
    where
      past : (xs : List Note) (k : ℕ) → length xs ≤ k → slice_get xs k ≡ None
      past [] k l = refl
      past (x ∷ xs) zero l = absurd (omega (arith, l))
      past (x ∷ xs) (suc k) l = past xs k (omega (arith, l))

  pub first_at : (notes : List Note) (n : ℕ) (d : Note) → Ascend notes → n < length notes → IsPoint notes n → first_from limit (row_in notes v) ≡ position_of v (get_or notes n d)
  first_at notes n d up lt h = first_found notes n up (omega (arith, lt)) h ∙ ap told (there notes n lt)
    where
      there : (xs : List Note) (k : ℕ) → k < length xs → slice_get xs k ≡ Some (get_or xs k d)
      there [] k l = absurd (omega (arith, l))
      there (x ∷ xs) zero l = refl
      there (x ∷ xs) (suc k) l = there xs k (omega (arith, l))

  pub last_none : (notes : List Note) → IsPoint notes 0 → last_below limit None (row_in notes v) ≡ None
  last_none notes h = none_found notes None h

  last_among : (notes : List Note) (n : ℕ) (d : Note) (last : Option ℕ) → Ascend notes → n < length notes → IsPoint notes (suc n) → last_below limit last (row_in notes v) ≡ cond ((get_or notes n d).value == v) (Some (get_or notes n d).position) last
  last_among [] n d last up lt h = absurd (omega (arith, lt))
  last_among (x ∷ xs) zero d last up lt h = at_test (x.value == v) refl
    where
      at_test : (b : Bool) → (x.value == v) ≡ b → last_below limit last (cond b (x.position ∷ row_in xs v) (row_in xs v)) ≡ cond b (Some x.position) last
      at_test true e =
          ap (λ b. last_below limit (cond b (Some x.position) last) (row_in xs v)) (lt_test x.position limit (before_position v limit x.value x.position (head_before x xs 0 h) (same_number x.value v e)))
          ∙ none_found xs (Some x.position) (point_on x xs 0 h)
      at_test false e = none_found xs last (point_on x xs 0 h)
  last_among (x ∷ xs) (suc n) d last up lt h = at_test (x.value == v) refl (λ l. last_among xs n d l (ascend_on x xs up) (omega (arith, lt)) (point_on x xs (suc n) h))
    where
      later : Note
      later = get_or xs n d

      at_test : (b : Bool) → (x.value == v) ≡ b → ((l : Option ℕ) → last_below limit l (row_in xs v) ≡ cond ((get_or xs n d).value == v) (Some (get_or xs n d).position) l) → last_below limit last (cond b (x.position ∷ row_in xs v) (row_in xs v)) ≡ cond ((get_or xs n d).value == v) (Some (get_or xs n d).position) last
      at_test true e on =
          let high : (get_or xs n d).value ≤ v = before_value v limit (get_or xs n d).value (get_or xs n d).position (h.0 (suc n) d (omega arith) (omega arith)) in
          let low : x.value ≤ (get_or xs n d).value = first_least x xs up n d (omega (arith, lt)) in
          let same : x.value ≡ v = same_number x.value v e in
          let now : ((get_or xs n d).value == v) ≡ true = same_test (get_or xs n d).value v (omega (arith, high, low, same)) in
          ap (λ b. last_below limit (cond b (Some x.position) last) (row_in xs v)) (lt_test x.position limit (before_position v limit x.value x.position (head_before x xs (suc n) h) same))
          ∙ on (Some x.position)
          ∙ ap (λ b. cond b (Some (get_or xs n d).position) (Some x.position)) now
          ∙ sym (ap (λ b. cond b (Some (get_or xs n d).position) last) now)
      at_test false e on = on last

  pub last_found : (notes : List Note) (n : ℕ) (d : Note) → Ascend notes → n < length notes → IsPoint notes (suc n) → last_below limit None (row_in notes v) ≡ position_of v (get_or notes n d)
  last_found notes n d up lt h = last_among notes n d None up lt h

---- A search can halve

rising_on : (x : ℕ) (xs : List ℕ) → IsRising (x ∷ xs) → IsRising xs
rising_on x xs h i j l m = h (suc i) (suc j) (omega (arith, l)) (omega (arith, m))

row_on : (x : Note) (xs : List Note) (v : ℕ) → IsRising (row_in (x ∷ xs) v) → IsRising (row_in xs v)
row_on x xs v = at_test (x.value == v)
  where
    at_test : (b : Bool) → IsRising (cond b (x.position ∷ row_in xs v) (row_in xs v)) → IsRising (row_in xs v)
    at_test true h = rising_on x.position (row_in xs v) h
    at_test false h = h

-- a note's position stands in its value's row
in_row : (xs : List Note) (v j : ℕ) (d : Note) → j < length xs → (get_or xs j d).value ≡ v → (k : ℕ) × (k < length (row_in xs v)) × (slice_index (row_in xs v) k ≡ (get_or xs j d).position)
in_row [] v j d l e = absurd (omega (arith, l))
in_row (x ∷ xs) v zero d l e = at_test (x.value == v) (same_test x.value v e)
  where
    at_test : (b : Bool) → b ≡ true → (k : ℕ) × (k < length (cond b (x.position ∷ row_in xs v) (row_in xs v))) × (slice_index (cond b (x.position ∷ row_in xs v) (row_in xs v)) k ≡ x.position)
    at_test true h = (0, omega arith, refl)
    at_test false h = cc
in_row (x ∷ xs) v (suc j) d l e = at_test (x.value == v) (in_row xs v j d (omega (arith, l)) e)
  where
    at_test : (b : Bool) → (k : ℕ) × (k < length (row_in xs v)) × (slice_index (row_in xs v) k ≡ (get_or xs j d).position) → (k : ℕ) × (k < length (cond b (x.position ∷ row_in xs v) (row_in xs v))) × (slice_index (cond b (x.position ∷ row_in xs v) (row_in xs v)) k ≡ (get_or xs j d).position)
    at_test true on = let l = on.1 in (suc on.0, omega (arith, l), on.2)
    at_test false on = on

first_low : (x : Note) (xs : List Note) (v : ℕ) → IsRising (row_in (x ∷ xs) v) → x.value ≡ v → (k : ℕ) → k < length (row_in xs v) → x.position ≤ slice_index (row_in xs v) k
first_low x xs v h e = at_test (x.value == v) (same_test x.value v e) h
  where
    at_test : (b : Bool) → b ≡ true → IsRising (cond b (x.position ∷ row_in xs v) (row_in xs v)) → (k : ℕ) → k < length (row_in xs v) → x.position ≤ slice_index (row_in xs v) k
    at_test true q h k l = h 0 (suc k) (omega arith) (omega (arith, l))
    at_test false q h k l = cc

pub parted : (v limit : ℕ) (notes : List Note) → Ascend notes → ((v : ℕ) → IsRising (row_in notes v)) → IsPartitionedBy (is_before v limit) notes
parted v limit [] up rise i j d l m t = absurd (omega (arith, m))
parted v limit (x ∷ xs) up rise zero zero d l m t = t
parted v limit (x ∷ xs) up rise (suc i) zero d l m t = absurd (omega (arith, l))
parted v limit (x ∷ xs) up rise (suc i) (suc j) d l m t = parted v limit xs (ascend_on x xs up) (λ w. row_on x xs w (rise w)) i j d (omega (arith, l)) (omega (arith, m)) t
parted v limit (x ∷ xs) up rise zero (suc j) d l m t = at_test (x.value == v) refl
  where
    at_test : (b : Bool) → (x.value == v) ≡ b → is_before v limit x ≡ true
    at_test false e =
        let least = first_least x xs up j d (omega (arith, m)) in
        let high : (get_or xs j d).value ≤ v = before_value v limit (get_or xs j d).value (get_or xs j d).position t in
        comes_lower v limit x.value x.position (other_number x.value v e (omega (arith, least, high)))
    at_test true e =
        let same : x.value ≡ v = same_number x.value v e in
        let least = first_least x xs up j d (omega (arith, m)) in
        let high : (get_or xs j d).value ≤ v = before_value v limit (get_or xs j d).value (get_or xs j d).position t in
        let now : (get_or xs j d).value ≡ v = omega (arith, same, least, high) in
        let found = in_row xs v j d (omega (arith, m)) now in
        let low : x.position ≤ slice_index (row_in xs v) found.0 = first_low x xs v (rise v) same found.0 found.1 in
        let is = found.2 in
        let below : (get_or xs j d).position < limit = before_position v limit (get_or xs j d).value (get_or xs j d).position t now in
        comes_same v limit x.value x.position same (omega (arith, low, is, below))

---- Halving behind notes that are passed

less_or_past : (i n : ℕ) → (i < n) ⊎ (n ≤ i)
less_or_past i n = grind arith

get_behind : (P : Note → Type 0) (notes : List Note) (n k j : ℕ) (d : Note) → n + j ≡ k → P (get_or (drop n notes) j d) → P (get_or notes k d)
get_behind P notes n k j d e h = let at : get_or (drop n notes) j d ≡ get_or notes k d = get_or-drop n notes j d ∙ ap (λ i. get_or notes i d) e in subst P at h

get_ahead : (P : Note → Type 0) (notes : List Note) (n k j : ℕ) (d : Note) → n + j ≡ k → P (get_or notes k d) → P (get_or (drop n notes) j d)
get_ahead P notes n k j d e h = let at : get_or notes k d ≡ get_or (drop n notes) j d = sym (get_or-drop n notes j d ∙ ap (λ i. get_or notes i d) e) in subst P at h

pub parted_behind : (p : Note → Bool) (notes : List Note) (n : ℕ) → IsPartitionedBy p notes → IsPartitionedBy p (drop n notes)
parted_behind p notes n h i j d le lt t =
    let m = length-drop n notes in
    get_ahead (λ x. p x ≡ true) notes n (n + i) i d refl (h (n + i) (n + j) d (omega (arith, le)) (omega (arith, lt, m)) (get_behind (λ x. p x ≡ true) notes n (n + j) j d refl t))

pub rest_is : (notes : List Note) (n : ℕ) → take (length notes - n) (drop n notes) ≡ drop n notes
rest_is notes n = ap (λ k. take k (drop n notes)) (sym (length-drop n notes)) ∙ take-length (drop n notes)

less : (a b : ℕ) → nat_lt a b ≡ true → a < b
less a b t = grind (arith, nat_tests)

-- notes up to one of a lower value have lower values
pub lower_upto : (v : ℕ) (notes : List Note) (at : ℕ) (x : Note) → Ascend notes → 0 < at → at ≤ length notes → x ≡ get_or notes (at - 1) x → nat_lt x.value v ≡ true → AllWithin (λ (y : Note). y.value < v) notes 0 at
lower_upto v notes at x up some within is t k d l m =
    let low : (get_or notes k x).value ≤ (get_or notes (at - 1) x).value = up k (at - 1) x (omega (arith, m)) (omega (arith, some, within)) in
    let last : x.value ≡ (get_or notes (at - 1) x).value = ap (λ (y : Note). y.value) is in
    let same : (get_or notes k d).value ≡ (get_or notes k x).value = ap (λ (y : Note). y.value) (get_or_default notes k d x (omega (arith, m, within))) in
    let below = less x.value v t in
    omega (arith, low, last, same, below)

pub point_at : (v limit : ℕ) (notes : List Note) (n : ℕ) (x : Note) → IsPartitionedBy (is_before v limit) notes → AllWithin (λ (x : Note). is_before v limit x ≡ true) notes 0 n → is_before v limit (get_or notes n x) ≡ false → IsPoint v limit notes n
point_at v limit notes n x parted before here = (before, behind)
  where
    behind : AllWithin (λ (x : Note). is_before v limit x ≡ false) notes n (length notes)
    behind k d l m = at_test (is_before v limit (get_or notes k d)) refl
      where
        at_test : (b : Bool) → is_before v limit (get_or notes k d) ≡ b → b ≡ false
        at_test false e = refl
        at_test true e = let low = parted n k d l m e in let same : get_or notes n d ≡ get_or notes n x = get_or_default notes n d x (omega (arith, l, m)) in cc

pub point_behind_near : (v limit : ℕ) (notes : List Note) (n i : ℕ) → AllWithin (λ (x : Note). is_before v limit x ≡ true) notes 0 n → IsPoint v limit (drop n notes) i → IsPoint v limit notes (n + i)
point_behind_near v limit notes n i before h = (low, high)
  where
    low : AllWithin (λ (x : Note). is_before v limit x ≡ true) notes 0 (n + i)
    low k d l m = elim (less_or_past k n) as (λ _. is_before v limit (get_or notes k d) ≡ true) [
      | inl less ↦ before k d l less
      | inr past ↦ get_behind (λ x. is_before v limit x ≡ true) notes n k (k - n) d (omega (arith, past)) (h.0 (k - n) d (omega arith) (omega (arith, past, m)))
    ]

    high : AllWithin (λ (x : Note). is_before v limit x ≡ false) notes (n + i) (length notes)
    high k d l m =
        let size = length-drop n notes in
        get_behind (λ x. is_before v limit x ≡ false) notes n k (k - n) d (omega (arith, l)) (h.1 (k - n) d (omega (arith, l)) (omega (arith, l, m, size)))

---- A stable sort by value

abbrev pub by_value : Note → Note → Bool
by_value x y = is_lt (nat_cmp x.value y.value)

tie_test : (v w : ℕ) → (not (is_lt (nat_cmp v w)) && not (is_lt (nat_cmp w v))) ≡ (w == v)
tie_test v w = grind (arith, nat_tests)

abbrev pub of_value : ℕ → Note
of_value v = record { value = v; position = 0 }

row_is : (xs : List Note) (v : ℕ) → row_in xs v ≡ map (λ (n : Note). n.position) (filter (ties by_value (of_value v)) xs)
row_is [] v = refl
row_is (x ∷ xs) v = at_test (x.value == v) (row_is xs v) ∙ ap (λ b. map (λ (n : Note). n.position) (cond b (x ∷ filter (ties by_value (of_value v)) xs) (filter (ties by_value (of_value v)) xs))) (sym (tie_test v x.value))
  where
    at_test : (b : Bool) → row_in xs v ≡ map (λ (n : Note). n.position) (filter (ties by_value (of_value v)) xs) → cond b (x.position ∷ row_in xs v) (row_in xs v) ≡ map (λ (n : Note). n.position) (cond b (x ∷ filter (ties by_value (of_value v)) xs) (filter (ties by_value (of_value v)) xs))
    at_test true on = ap (λ t. x.position ∷ t) on
    at_test false on = on

pub same_row : (xs ys : List Note) (v : ℕ) → IsStableByKey (λ (n : Note). n.value) nat_cmp xs ys → row_in ys v ≡ row_in xs v
same_row xs ys v h = row_is ys v ∙ ap (map (λ (n : Note). n.position)) (h (of_value v)) ∙ sym (row_is xs v)
