-- What is in a row whose words change.
use Rattle.std.proofs.Common.{◌≡◌, ◌≢◌, ℕ, zero, suc, ◌+◌, ◌-◌, ◌*◌, ◌/◌, ◌%◌, ◌^◌, ◌<◌, ◌≤◌, ◌⊎◌, inl, inr, Bool, true, false, cond, ◌&&◌, ◌||◌, List, [], ◌∷◌, ◌++◌, length, get_or, take, replicate, bit_and, bit_or, refl, sym, ap, ap₂, subst, ◌∙◌, append_assoc, append-nil, arith, w64}
use Rattle.std.specs.Prelude.{◌==◌, nat_lt, nat_le, filter}
use Rattle.std.specs.Int.{bit_at, trailing_zeros}
use Rattle.std.proofs.Math.ListN.{set}
use Rattle.std.proofs.lemmas.Bool.{eq-eqb, lt-ltb, ne_eqb, cases_eq, cases_lt}
use Rattle.std.proofs.lemmas.Bool.Decides.{nat_tests}
use Rattle.std.proofs.lemmas.List.{get_or_past, get_or-set_same, get_or-set_other, get_or-take, get_or_append_left, get_or-append_right, get_or-replicate, get_or_default, length-set, length-replicate}
use Rattle.std.proofs.lemmas.Nat.{one_shl, and_mask}
use Rattle.std.proofs.lemmas.Nat.Bits.{bit_at-zero, bit_at_or, bit_at_and, bit_at-lt, bit_at_ones, bit_at_ones_above, bit_at-pow_same, bit_at-pow_other}
use Rattle.run_laws.specs.Layers.{places_from}
use Rattle.lir_core.specs.Rows.{is_in, IsLowest}
use Rattle.lir_core.proofs.Lowest.{none_in_word, lowest_in_word, lowest_below}
use Rattle.lir_core.proofs.Passing.{none_from, one_from}
use Rattle.value_sets.specs.Words.{values_of, word_values, AreSame, AreJoined, AreAllJoined, AreKept}

---- Tests

not_less : (a b : ℕ) → b ≤ a → nat_lt a b ≡ false
not_less a b l = grind (arith, nat_tests)

at_most : (a b : ℕ) → a ≤ b → nat_le a b ≡ true
at_most a b l = grind (arith, nat_tests)

not_at_most : (a b : ℕ) → b < a → nat_le a b ≡ false
not_at_most a b l = grind (arith, nat_tests)

or_none : (b : Bool) → b ≡ (b || false)
or_none true = refl
or_none false = refl

and_all : (b : Bool) → b ≡ (b && true)
and_all true = refl
and_all false = refl

and_none : (b : Bool) → false ≡ (b && false)
and_none true = refl
and_none false = refl

or_or : (a b c : Bool) → ((a || b) || c) ≡ (a || (b || c))
or_or true b c = refl
or_or false b c = refl

or_bits : (a x i : ℕ) → (bit_at (bit_or a x) i == 1) ≡ ((bit_at a i == 1) || (bit_at x i == 1))
or_bits a x i = grind (arith, nat_tests, bit_at_or, bit_at-lt)

and_bits : (a x i : ℕ) → (bit_at (bit_and a x) i == 1) ≡ ((bit_at a i == 1) && (bit_at x i == 1))
and_bits a x i = grind (arith, nat_tests, bit_at_and, bit_at-lt)

low_bits : (x k i : ℕ) → (bit_at (x % 2 ^ k) i == 1) ≡ ((bit_at x i == 1) && nat_lt i k)
low_bits x k i = ap (λ y. bit_at y i == 1) (sym (and_mask x k)) ∙ and_bits x (2 ^ k - 1) i ∙ ap (λ b. (bit_at x i == 1) && b) (by (cases_lt i k))
  where
    by : ◌⊎◌ (i < k) (k ≤ i) → (bit_at (2 ^ k - 1) i == 1) ≡ nat_lt i k
    by (inl l) = ap (λ y. y == 1) (bit_at_ones k i l) ∙ sym (lt-ltb i k l)
    by (inr l) = ap (λ y. y == 1) (bit_at_ones_above k i l) ∙ sym (not_less i k l)

pub masked : (word bits : ℕ) → bits < 64 → bit_and word (1 * 2 ^ bits % 2 ^ 64 - 1) ≡ word % 2 ^ bits
masked word bits l = ap (λ y. bit_and word (y - 1)) (one_shl bits 64 l) ∙ and_mask word bits

---- Words

past : (row : List ℕ) (v : ℕ) → length row ≤ v / 64 → is_in row v ≡ false
past row v l = ap (λ x. bit_at x (v % 64) == 1) (get_or_past row (v / 64) 0 l) ∙ ap (λ x. x == 1) (bit_at-zero (v % 64))

in_word : (row : List ℕ) (at v : ℕ) → v / 64 ≡ at → is_in row v ≡ (bit_at (get_or row at 0) (v % 64) == 1)
in_word row at v e = ap (λ i. bit_at (get_or row i 0) (v % 64) == 1) e

in_set : (row : List ℕ) (at x v : ℕ) → at < length row → v / 64 ≡ at → is_in (set row at x) v ≡ (bit_at x (v % 64) == 1)
in_set row at x v l e = in_word (set row at x) at v e ∙ ap (λ y. bit_at y (v % 64) == 1) (get_or-set_same row at x 0 l)

beside : (row : List ℕ) (at x v : ℕ) → v / 64 ≢ at → is_in (set row at x) v ≡ is_in row v
beside row at x v ne = ap (λ y. bit_at y (v % 64) == 1) (get_or-set_other row at (v / 64) x 0 ne)

-- zeros behind change nothing
pub grown : (row : List ℕ) (n v : ℕ) → is_in (row ++ replicate n 0) v ≡ is_in row v
grown row n v = ap (λ y. bit_at y (v % 64) == 1) (by (cases_lt (v / 64) (length row)))
  where
    zeros : (n i : ℕ) → ◌≡◌ {A = ℕ} (get_or (replicate n 0) i 0) 0
    zeros zero i = refl
    zeros (suc n) zero = refl
    zeros (suc n) (suc i) = zeros n i

    by : ◌⊎◌ (v / 64 < length row) (length row ≤ v / 64) → get_or (row ++ replicate n 0) (v / 64) 0 ≡ get_or row (v / 64) 0
    by (inl l) = get_or_append_left row (replicate n 0) 0 (v / 64) l
    by (inr l) = get_or-append_right row (replicate n 0) (length row) (v / 64) 0 refl l ∙ zeros n (v / 64 - length row) ∙ sym (get_or_past row (v / 64) 0 l)

---- Joining

pub joined_at : (before row : List ℕ) (at y x : ℕ) → AreSame before row → at < length row → y ≡ get_or row at y → AreJoined at x before (set row at (bit_or y x))
joined_at before row at y x same l is v = by (cases_eq (v / 64) at)
  where
    by : ◌⊎◌ (v / 64 ≡ at) (v / 64 ≢ at) → is_in (set row at (bit_or y x)) v ≡ (is_in before v || ((v / 64 == at) && (bit_at x (v % 64) == 1)))
    by (inl e) =
        in_set row at (bit_or y x) v l e ∙ or_bits y x (v % 64)
        ∙ ap₂ (λ a b. a || b) (ap (λ z. bit_at z (v % 64) == 1) (is ∙ get_or_default row at y 0 l) ∙ sym (in_word row at v e) ∙ same v) (ap (λ b. b && (bit_at x (v % 64) == 1)) (sym (eq-eqb (v / 64) at e)))
    by (inr ne) = beside row at (bit_or y x) v ne ∙ same v ∙ or_none (is_in before v) ∙ ap (λ b. is_in before v || (b && (bit_at x (v % 64) == 1))) (sym (ne_eqb (v / 64) at ne))

pub joined_none : (before : List ℕ) (at : ℕ) → AreJoined at 0 before before
joined_none before at v = or_none (is_in before v) ∙ ap (λ b. is_in before v || b) (and_none (v / 64 == at) ∙ ap (λ y. (v / 64 == at) && (y == 1)) (sym (bit_at-zero (v % 64))))

pub none_joined : (row before after : List ℕ) → AreSame before after → AreAllJoined row 0 before after
none_joined row before after same v = same v ∙ or_none (is_in before v) ∙ ap (λ b. is_in before v || (b && is_in row v)) (sym (not_less (v / 64) 0 (omega arith)))

-- one word more
pub joined_more : (row before now after : List ℕ) (at : ℕ) → AreAllJoined row at before now → AreJoined at (get_or row at 0) now after → AreAllJoined row (at + 1) before after
joined_more row before now after at all one v = one v ∙ ap (λ b. b || ((v / 64 == at) && (bit_at (get_or row at 0) (v % 64) == 1))) (all v) ∙ or_or (is_in before v) (nat_lt (v / 64) at && is_in row v) ((v / 64 == at) && (bit_at (get_or row at 0) (v % 64) == 1)) ∙ ap (λ b. is_in before v || b) (by (cases_eq (v / 64) at))
  where
    more : (i at : ℕ) → i ≢ at → nat_lt i at ≡ nat_lt i (at + 1)
    more i at ne = grind (arith, nat_tests)

    by : ◌⊎◌ (v / 64 ≡ at) (v / 64 ≢ at) → ((nat_lt (v / 64) at && is_in row v) || ((v / 64 == at) && (bit_at (get_or row at 0) (v % 64) == 1))) ≡ (nat_lt (v / 64) (at + 1) && is_in row v)
    by (inl e) =
        ap₂ (λ a b. (a && is_in row v) || (b && (bit_at (get_or row at 0) (v % 64) == 1))) (not_less (v / 64) at (omega (arith, e))) (eq-eqb (v / 64) at e)
        ∙ sym (in_word row at v e) ∙ ap (λ b. b && is_in row v) (sym (lt-ltb (v / 64) (at + 1) (omega (arith, e))))
    by (inr ne) =
        ap (λ b. (nat_lt (v / 64) at && is_in row v) || (b && (bit_at (get_or row at 0) (v % 64) == 1))) (ne_eqb (v / 64) at ne)
        ∙ sym (or_none (nat_lt (v / 64) at && is_in row v)) ∙ ap (λ b. b && is_in row v) (more (v / 64) at ne)

-- there are no more words
pub joined_up : (row before now : List ℕ) (at count : ℕ) → length row ≤ at → at ≤ count → AreAllJoined row at before now → AreAllJoined row count before now
joined_up row before now at count l le all v = all v ∙ ap (λ b. is_in before v || b) (by (cases_lt (v / 64) at))
  where
    by : ◌⊎◌ (v / 64 < at) (at ≤ v / 64) → (nat_lt (v / 64) at && is_in row v) ≡ (nat_lt (v / 64) count && is_in row v)
    by (inl m) = ap (λ b. b && is_in row v) (lt-ltb (v / 64) at m ∙ sym (lt-ltb (v / 64) count (omega (arith, m, le))))
    by (inr m) =
        let none = past row v (omega (arith, l, m)) in
        ap (λ b. nat_lt (v / 64) at && b) none ∙ sym (and_none (nat_lt (v / 64) at)) ∙ and_none (nat_lt (v / 64) count) ∙ ap (λ b. nat_lt (v / 64) count && b) (sym none)

-- whole words, and the lowest bits of one
pub joined_below : (row before now after : List ℕ) (limit x y : ℕ) → AreAllJoined row (limit / 64) before now → x ≡ get_or row (limit / 64) 0 → y ≡ x % 2 ^ (limit % 64) → AreJoined (limit / 64) y now after → (v : ℕ) → is_in after v ≡ (is_in before v || (nat_lt v limit && is_in row v))
joined_below row before now after limit x y all is low one v =
    one v ∙ ap₂ (λ b z. b || ((v / 64 == limit / 64) && (bit_at z (v % 64) == 1))) (all v) low
    ∙ or_or (is_in before v) (nat_lt (v / 64) (limit / 64) && is_in row v) ((v / 64 == limit / 64) && (bit_at (x % 2 ^ (limit % 64)) (v % 64) == 1))
    ∙ ap (λ b. is_in before v || b) (by (cases_eq (v / 64) (limit / 64)) (cases_lt (v / 64) (limit / 64)))
  where
    turned : (a b : Bool) → (a && b) ≡ (b && a)
    turned true true = refl
    turned true false = refl
    turned false true = refl
    turned false false = refl

    in_order : v / 64 ≡ limit / 64 → nat_lt (v % 64) (limit % 64) ≡ nat_lt v limit
    in_order e = at_test (cases_lt v limit)
      where
        at_test : ◌⊎◌ (v < limit) (limit ≤ v) → nat_lt (v % 64) (limit % 64) ≡ nat_lt v limit
        at_test (inl l) = lt-ltb (v % 64) (limit % 64) (omega (arith, e, l)) ∙ sym (lt-ltb v limit l)
        at_test (inr l) = not_less (v % 64) (limit % 64) (omega (arith, e, l)) ∙ sym (not_less v limit l)

    by : ◌⊎◌ (v / 64 ≡ limit / 64) (v / 64 ≢ limit / 64) → ◌⊎◌ (v / 64 < limit / 64) (limit / 64 ≤ v / 64) → ((nat_lt (v / 64) (limit / 64) && is_in row v) || ((v / 64 == limit / 64) && (bit_at (x % 2 ^ (limit % 64)) (v % 64) == 1))) ≡ (nat_lt v limit && is_in row v)
    by (inl e) _ =
        ap₂ (λ a b. (a && is_in row v) || (b && (bit_at (x % 2 ^ (limit % 64)) (v % 64) == 1))) (not_less (v / 64) (limit / 64) (omega (arith, e))) (eq-eqb (v / 64) (limit / 64) e)
        ∙ low_bits x (limit % 64) (v % 64)
        ∙ ap₂ (λ a b. a && b) (ap (λ z. bit_at z (v % 64) == 1) is ∙ sym (in_word row (limit / 64) v e)) (in_order e)
        ∙ turned (is_in row v) (nat_lt v limit)
    by (inr ne) (inl l) =
        ap₂ (λ a b. (a && is_in row v) || (b && (bit_at (x % 2 ^ (limit % 64)) (v % 64) == 1))) (lt-ltb (v / 64) (limit / 64) l) (ne_eqb (v / 64) (limit / 64) ne)
        ∙ sym (or_none (is_in row v)) ∙ ap (λ b. b && is_in row v) (sym (lt-ltb v limit (omega (arith, l))))
    by (inr ne) (inr l) =
        ap₂ (λ a b. (a && is_in row v) || (b && (bit_at (x % 2 ^ (limit % 64)) (v % 64) == 1))) (not_less (v / 64) (limit / 64) l) (ne_eqb (v / 64) (limit / 64) ne)
        ∙ ap (λ b. b && is_in row v) (sym (not_less v limit (omega (arith, l, ne))))

-- the word of one value
pub one_value : (v w : ℕ) → ((w / 64 == v / 64) && (bit_at (1 * 2 ^ (v % 64) % 2 ^ 64) (w % 64) == 1)) ≡ (v == w)
one_value v w = ap (λ x. (w / 64 == v / 64) && (bit_at x (w % 64) == 1)) (one_shl (v % 64) 64 (omega arith)) ∙ by (cases_eq (w / 64) (v / 64)) (cases_eq (w % 64) (v % 64))
  where
    by : ◌⊎◌ (w / 64 ≡ v / 64) (w / 64 ≢ v / 64) → ◌⊎◌ (w % 64 ≡ v % 64) (w % 64 ≢ v % 64) → ((w / 64 == v / 64) && (bit_at (2 ^ (v % 64)) (w % 64) == 1)) ≡ (v == w)
    by (inl e) (inl f) =
        ap (λ b. b && (bit_at (2 ^ (v % 64)) (w % 64) == 1)) (eq-eqb (w / 64) (v / 64) e)
        ∙ ap (λ i. bit_at (2 ^ (v % 64)) i == 1) f ∙ ap (λ y. y == 1) (bit_at-pow_same (v % 64)) ∙ sym (eq-eqb v w (omega (arith, e, f)))
    by (inl e) (inr n) =
        ap (λ b. b && (bit_at (2 ^ (v % 64)) (w % 64) == 1)) (eq-eqb (w / 64) (v / 64) e)
        ∙ ap (λ y. y == 1) (bit_at-pow_other (v % 64) (w % 64) n) ∙ sym (ne_eqb v w (λ q. n (ap (λ z. z % 64) (sym q))))
    by (inr n) _ = ap (λ b. b && (bit_at (2 ^ (v % 64)) (w % 64) == 1)) (ne_eqb (w / 64) (v / 64) n) ∙ sym (ne_eqb v w (λ q. n (ap (λ z. z / 64) (sym q))))

---- Keeping

pub none_kept : (others before : List ℕ) → AreKept others 0 before before
none_kept others before v = and_all (is_in before v) ∙ ap (λ b. is_in before v && (b || is_in others v)) (sym (at_most 0 (v / 64) (omega arith)))

pub kept_more : (others before now : List ℕ) (at y w : ℕ) → AreKept others at before now → at < length now → y ≡ get_or now at y → w ≡ get_or others at 0 → AreKept others (at + 1) before (set now at (bit_and y w))
kept_more others before now at y w kept l is other v = by (cases_eq (v / 64) at)
  where
    more : (i at : ℕ) → i ≢ at → nat_le at i ≡ nat_le (at + 1) i
    more i at ne = grind (arith, nat_tests)

    by : ◌⊎◌ (v / 64 ≡ at) (v / 64 ≢ at) → is_in (set now at (bit_and y w)) v ≡ (is_in before v && (nat_le (at + 1) (v / 64) || is_in others v))
    by (inl e) =
        in_set now at (bit_and y w) v l e ∙ and_bits y w (v % 64)
        ∙ ap₂ (λ a b. a && b)
        (ap (λ z. bit_at z (v % 64) == 1) (is ∙ get_or_default now at y 0 l) ∙ sym (in_word now at v e) ∙ kept v ∙ ap (λ b. is_in before v && (b || is_in others v)) (at_most at (v / 64) (omega (arith, e))) ∙ sym (and_all (is_in before v)))
        (ap (λ z. bit_at z (v % 64) == 1) other ∙ sym (in_word others at v e) ∙ ap (λ b. b || is_in others v) (sym (not_at_most (at + 1) (v / 64) (omega (arith, e)))))
    by (inr ne) = beside now at (bit_and y w) v ne ∙ kept v ∙ ap (λ b. is_in before v && (b || is_in others v)) (more (v / 64) at ne)

pub all_kept : (others before now : List ℕ) (count : ℕ) → AreKept others count before now → length before ≤ count → (v : ℕ) → is_in now v ≡ (is_in before v && is_in others v)
all_kept others before now count kept l v = kept v ∙ by (cases_lt (v / 64) count)
  where
    by : ◌⊎◌ (v / 64 < count) (count ≤ v / 64) → (is_in before v && (nat_le count (v / 64) || is_in others v)) ≡ (is_in before v && is_in others v)
    by (inl m) = ap (λ b. is_in before v && (b || is_in others v)) (not_at_most count (v / 64) m)
    by (inr m) = let none = past before v (omega (arith, l, m)) in ap (λ b. b && (nat_le count (v / 64) || is_in others v)) none ∙ ap (λ b. b && is_in others v) (sym none)

-- the values below a limit
pub cut_at : (row cut : List ℕ) (limit x y : ℕ) → limit / 64 < length row → cut ≡ take (limit / 64 + 1) row → x ≡ get_or cut (limit / 64) x → y ≡ x % 2 ^ (limit % 64) → (v : ℕ) → is_in (set cut (limit / 64) y) v ≡ (is_in row v && nat_lt v limit)
cut_at row cut limit x y l is at low v = by (cases_eq (v / 64) (limit / 64)) (cases_lt (v / 64) (limit / 64))
  where
    long : length cut ≡ limit / 64 + 1
    long = ap length is ∙ length-took (limit / 64 + 1) row (omega (arith, l))
      where
        length-took : (n : ℕ) (xs : List ℕ) → n ≤ length xs → length (take n xs) ≡ n
        length-took n xs l = grind (arith, Rattle.std.proofs.lemmas.List.length-take)

    kept : (i : ℕ) → i ≤ limit / 64 → get_or cut i 0 ≡ get_or row i 0
    kept i m = ap (λ xs. get_or xs i 0) is ∙ get_or-take (limit / 64 + 1) row i 0 (omega (arith, m))

    in_order : v / 64 ≡ limit / 64 → nat_lt (v % 64) (limit % 64) ≡ nat_lt v limit
    in_order e = at_test (cases_lt v limit)
      where
        at_test : ◌⊎◌ (v < limit) (limit ≤ v) → nat_lt (v % 64) (limit % 64) ≡ nat_lt v limit
        at_test (inl l) = lt-ltb (v % 64) (limit % 64) (omega (arith, e, l)) ∙ sym (lt-ltb v limit l)
        at_test (inr l) = not_less (v % 64) (limit % 64) (omega (arith, e, l)) ∙ sym (not_less v limit l)

    by : ◌⊎◌ (v / 64 ≡ limit / 64) (v / 64 ≢ limit / 64) → ◌⊎◌ (v / 64 < limit / 64) (limit / 64 ≤ v / 64) → is_in (set cut (limit / 64) y) v ≡ (is_in row v && nat_lt v limit)
    by (inl e) _ =
        in_set cut (limit / 64) y v (omega (arith, long)) e ∙ ap (λ z. bit_at z (v % 64) == 1) low ∙ low_bits x (limit % 64) (v % 64)
        ∙ ap₂ (λ a b. a && b) (ap (λ z. bit_at z (v % 64) == 1) (at ∙ get_or_default cut (limit / 64) x 0 (omega (arith, long)) ∙ kept (limit / 64) (omega arith)) ∙ sym (in_word row (limit / 64) v e)) (in_order e)
    by (inr ne) (inl m) =
        beside cut (limit / 64) y v ne ∙ ap (λ z. bit_at z (v % 64) == 1) (kept (v / 64) (omega (arith, m)))
        ∙ and_all (is_in row v) ∙ ap (λ b. is_in row v && b) (sym (lt-ltb v limit (omega (arith, m))))
    by (inr ne) (inr m) =
        beside cut (limit / 64) y v ne ∙ past cut v (omega (arith, long, m, ne)) ∙ and_none (is_in row v) ∙ ap (λ b. is_in row v && b) (sym (not_less v limit (omega (arith, m, ne))))

pub not_cut : (row : List ℕ) (limit : ℕ) → length row ≤ limit / 64 → (v : ℕ) → is_in row v ≡ (is_in row v && nat_lt v limit)
not_cut row limit l v = by (cases_lt v limit)
  where
    by : ◌⊎◌ (v < limit) (limit ≤ v) → is_in row v ≡ (is_in row v && nat_lt v limit)
    by (inl m) = and_all (is_in row v) ∙ ap (λ b. is_in row v && b) (sym (lt-ltb v limit m))
    by (inr m) = past row v (omega (arith, l, m)) ∙ and_none (is_in row v) ∙ ap (λ b. is_in row v && b) (sym (not_less v limit m))

---- Lists of values

-- the values of a word from a bit on
abbrev pub values_from : List ℕ → ℕ → ℕ → List ℕ
values_from row at from = filter (is_in row) (places_from (at * 64 + from) (at * 64 + 64 - (at * 64 + from)))

pub whole_word : (row : List ℕ) (at : ℕ) → values_from row at 0 ≡ word_values row at
unfolding word_values
whole_word row at =
    let a : at * 64 + 0 ≡ at * 64 = omega arith in
    let b : at * 64 + 64 - (at * 64 + 0) ≡ 64 = omega arith in
    ap (λ i. filter (is_in row) (places_from i (at * 64 + 64 - (at * 64 + 0)))) a ∙ ap (λ n. filter (is_in row) (places_from (at * 64) n)) b

next_value : (row : List ℕ) (at from t : ℕ) → t ≡ trailing_zeros w64 (get_or row at 0 / 2 ^ from) → get_or row at 0 < 2 ^ 64 → 0 < get_or row at 0 / 2 ^ from → from + t < 64 → values_from row at from ≡ (at * 64 + (from + t)) ∷ values_from row at (from + t + 1)
next_value row at from t is b h below =
    let low : IsLowest (is_in row) (at * 64 + from) (at * 64 + from + t) = subst (λ k. IsLowest (is_in row) (at * 64 + from) (at * 64 + from + k)) (sym is) (lowest_in_word row at from b h) in
    let e : at * 64 + from + t ≡ at * 64 + (from + t) = omega arith in
    let f : at * 64 + from + t + 1 ≡ at * 64 + (from + t + 1) = omega arith in
    one_from (is_in row) (at * 64 + from) (at * 64 + from + t) (at * 64 + 64) low (omega (arith, below))
    ∙ ap (λ i. i ∷ filter (is_in row) (places_from (at * 64 + from + t + 1) (at * 64 + 64 - (at * 64 + from + t + 1)))) e
    ∙ ap (λ i. (at * 64 + (from + t)) ∷ filter (is_in row) (places_from i (at * 64 + 64 - i))) f

pub value_pushed : (row list new start : List ℕ) (at from : ℕ) → get_or row at 0 < 2 ^ 64 → 0 < get_or row at 0 / 2 ^ from → new ≡ list ++ (at * 64 + (from + trailing_zeros w64 (get_or row at 0 / 2 ^ from))) ∷ [] → list ++ values_from row at from ≡ start → new ++ values_from row at (from + trailing_zeros w64 (get_or row at 0 / 2 ^ from) + 1) ≡ start
value_pushed row list new start at from b h e before = by (trailing_zeros w64 (get_or row at 0 / 2 ^ from)) refl (lowest_below row at from b h) e
  where
    by : (t : ℕ) → t ≡ trailing_zeros w64 (get_or row at 0 / 2 ^ from) → from + t < 64 → new ≡ list ++ (at * 64 + (from + t)) ∷ [] → new ++ values_from row at (from + t + 1) ≡ start
    by t is l e =
        ap (λ xs. xs ++ values_from row at (from + t + 1)) e ∙ append_assoc list ((at * 64 + (from + t)) ∷ []) (values_from row at (from + t + 1))
        ∙ ap (λ xs. list ++ xs) (sym (next_value row at from t is b h l)) ∙ before

no_value : (row : List ℕ) (at from : ℕ) → get_or row at 0 / 2 ^ from ≡ 0 → values_from row at from ≡ []
no_value row at from e = none_from (is_in row) (at * 64 + from) (at * 64 + 64) (λ v l m. none_in_word row at from e v (omega (arith, l, m)) (omega (arith, l, m)))

none_left : (row : List ℕ) (at from : ℕ) → 64 ≤ from → values_from row at from ≡ []
none_left row at from l = let e : at * 64 + 64 - (at * 64 + from) ≡ 0 = omega (arith, l) in ap (λ n. filter (is_in row) (places_from (at * 64 + from) n)) e

-- the word is done
done : (row list start : List ℕ) (at from : ℕ) → values_from row at from ≡ [] → list ++ values_from row at from ≡ start ++ values_from row at 0 → list ≡ start ++ word_values row at
done row list start at from none before = sym (append-nil list) ∙ ap (λ xs. list ++ xs) (sym none) ∙ before ∙ ap (λ xs. start ++ xs) (whole_word row at)

pub done_early : (row list start : List ℕ) (at from : ℕ) → get_or row at 0 / 2 ^ from ≡ 0 → list ++ values_from row at from ≡ start ++ values_from row at 0 → list ≡ start ++ word_values row at
done_early row list start at from e before = done row list start at from (no_value row at from e) before

pub done_late : (row list start : List ℕ) (at from : ℕ) → 64 ≤ from → list ++ values_from row at from ≡ start ++ values_from row at 0 → list ≡ start ++ word_values row at
done_late row list start at from l before = done row list start at from (none_left row at from l) before

places_more : (p : ℕ → Bool) (a n m : ℕ) → filter p (places_from a (n + m)) ≡ filter p (places_from a n) ++ filter p (places_from (a + n) m)
places_more p a zero m =
    let e : zero + m ≡ m = omega arith in
    let f : a ≡ a + zero = omega arith in
    ap (λ n. filter p (places_from a n)) e ∙ ap (λ i. filter p (places_from i m)) f
places_more p a (suc n) m = ap (λ k. filter p (places_from a k)) (add n m) ∙ by (p a) (places_more p (suc a) n m) ∙ ap (λ i. filter p (places_from a (suc n)) ++ filter p (places_from i m)) (turn a n)
  where
    add : (n m : ℕ) → suc n + m ≡ suc (n + m)
    add n m = omega arith

    turn : (a n : ℕ) → suc a + n ≡ a + suc n
    turn a n = omega arith

    by : (b : Bool) → filter p (places_from (suc a) (n + m)) ≡ filter p (places_from (suc a) n) ++ filter p (places_from (suc a + n) m) → cond b (a ∷ filter p (places_from (suc a) (n + m))) (filter p (places_from (suc a) (n + m))) ≡ cond b (a ∷ filter p (places_from (suc a) n)) (filter p (places_from (suc a) n)) ++ filter p (places_from (suc a + n) m)
    by true on = ap (λ xs. a ∷ xs) on
    by false on = on

word_more : (row : List ℕ) (at : ℕ) → filter (is_in row) (places_from 0 (at * 64)) ++ word_values row at ≡ filter (is_in row) (places_from 0 ((at + 1) * 64))
unfolding word_values
word_more row at =
    let e : (at + 1) * 64 ≡ at * 64 + 64 = omega arith in
    let f : 0 + at * 64 ≡ at * 64 = omega arith in
    sym (ap (λ n. filter (is_in row) (places_from 0 n)) e ∙ places_more (is_in row) 0 (at * 64) 64 ∙ ap (λ i. filter (is_in row) (places_from 0 (at * 64)) ++ filter (is_in row) (places_from i 64)) f)

pub word_pushed : (row list new start : List ℕ) (at : ℕ) → list ≡ start ++ filter (is_in row) (places_from 0 (at * 64)) → new ≡ list ++ word_values row at → new ≡ start ++ filter (is_in row) (places_from 0 ((at + 1) * 64))
word_pushed row list new start at before e =
    e ∙ ap (λ xs. xs ++ word_values row at) before ∙ append_assoc start (filter (is_in row) (places_from 0 (at * 64))) (word_values row at)
    ∙ ap (λ xs. start ++ xs) (word_more row at)

pub all_pushed : (row list start : List ℕ) (at : ℕ) → at ≡ length row → list ≡ start ++ filter (is_in row) (places_from 0 (at * 64)) → list ≡ start ++ values_of row
unfolding values_of
all_pushed row list start at e before =
    let f : at * 64 ≡ 64 * length row = omega (arith, e) in
    before ∙ ap (λ n. start ++ filter (is_in row) (places_from 0 n)) f
