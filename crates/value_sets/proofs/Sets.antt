-- Rows of bits and the lists of their values.
use Rattle.std.proofs.Common.{◌≡◌, ℕ, zero, suc, ◌+◌, ◌*◌, ◌/◌, ◌%◌, ◌^◌, ◌<◌, ◌≤◌, ◌⊎◌, inl, inr, Bool, true, false, ◌&&◌, ◌||◌, cond, List, [], ◌∷◌, ◌++◌, filter, length, get_or, refl, sym, ap, ap₂, subst, ◌∙◌, arith}
use Rattle.std.specs.Prelude.{◌==◌, nat_lt, nat_le}
use Rattle.std.specs.Int.{bit_at}
use Rattle.std.proofs.lemmas.Bool.{eqb-true, eq-eqb, lt-ltb, cases_lt}
use Rattle.std.proofs.lemmas.Bool.Decides.{nat_tests}
use Rattle.std.proofs.lemmas.List.{get_or_past}
use Rattle.std.proofs.lemmas.Nat.Bits.{bit_at-zero}
use Rattle.run_laws.specs.Layers.{places_from}
use Rattle.block_runs.specs.Live.{has}
use Rattle.lir_core.specs.Rows.{is_in, has_bit, live_into}
use Rattle.lir_core.specs.Spots.{IsRising}
use Rattle.rising_lists.proofs.Ranks.{not_in, rising_tail}
use Rattle.global_live.proofs.Lists.{has-filter}
use Rattle.global_live.proofs.Tables.{has_places}
use Rattle.loc_state.specs.Homed.{inserted, all_inserted}
use Rattle.loc_state.proofs.Homing.{has_inserted, has_all_inserted, inserted_rises, all_inserted_rises, filter_rises}
use Rattle.value_sets.specs.Words.{values_of, AreJoined}
use Rattle.value_sets.proofs.Bits.{one_value}

---- Lists that rise are the sets of their values

has_first : (x : ℕ) (xs : List ℕ) → has (x ∷ xs) x ≡ true
has_first x xs = ap (λ b. cond b true (has xs x)) (eq-eqb x x refl)

not_in_behind : (x v : ℕ) (xs : List ℕ) → IsRising (x ∷ xs) → v < x → has (x ∷ xs) v ≡ false
not_in_behind x v xs r l = ap (λ b. cond b true (has xs v)) (apart x v l) ∙ not_in x xs v r (omega (arith, l))
  where
    apart : (x v : ℕ) → v < x → (x == v) ≡ false
    apart x v l = grind (arith, nat_tests)

same_first : (x y : ℕ) (xs ys : List ℕ) → IsRising (x ∷ xs) → IsRising (y ∷ ys) → has (x ∷ xs) x ≡ has (y ∷ ys) x → has (x ∷ xs) y ≡ has (y ∷ ys) y → x ≡ y
same_first x y xs ys r s a b = by (cases_lt x y) (cases_lt y x)
  where
    by : ◌⊎◌ (x < y) (y ≤ x) → ◌⊎◌ (y < x) (x ≤ y) → x ≡ y
    by (inl l) _ = let c : true ≡ false = sym (has_first x xs) ∙ a ∙ not_in_behind y x ys s l in cc
    by (inr l) (inl m) = let c : true ≡ false = sym (has_first y ys) ∙ sym b ∙ not_in_behind x y xs r m in cc
    by (inr l) (inr m) = omega (arith, l, m)

pub same_rising : (xs ys : List ℕ) → IsRising xs → IsRising ys → ((v : ℕ) → has xs v ≡ has ys v) → xs ≡ ys
same_rising [] [] r s h = refl
same_rising [] (y ∷ ys) r s h = let c : false ≡ true = h y ∙ has_first y ys in cc
same_rising (x ∷ xs) [] r s h = let c : true ≡ false = sym (has_first x xs) ∙ h x in cc
same_rising (x ∷ xs) (y ∷ ys) r s h = with_first (same_first x y xs ys r s (h x) (h y)) (λ on. same_rising xs ys (rising_tail x xs r) (rising_tail y ys s) on)
  where
    rest : x ≡ y → (v : ℕ) → (b : Bool) → (x == v) ≡ b → cond b true (has xs v) ≡ cond (y == v) true (has ys v) → has xs v ≡ has ys v
    rest e v true t g = let f = eqb-true x v t in not_in x xs v r (omega (arith, f)) ∙ sym (not_in y ys v s (omega (arith, f, e)))
    rest e v false t g = g ∙ ap (λ b. cond b true (has ys v)) (sym (ap (λ z. z == v) e) ∙ t)

    with_first : x ≡ y → (((v : ℕ) → has xs v ≡ has ys v) → xs ≡ ys) → (x ∷ xs) ≡ (y ∷ ys)
    with_first e on = ap₂ (λ z zs. z ∷ zs) e (on (λ v. rest e v (x == v) refl (at_test v (h v))))
      where
        at_test : (v : ℕ) → has (x ∷ xs) v ≡ has (y ∷ ys) v → cond (x == v) true (has xs v) ≡ cond (y == v) true (has ys v)
        at_test v g = g

---- The values of a row

pub rising_places : (a n : ℕ) → IsRising (places_from a n)
rising_places a zero = tt
rising_places a (suc zero) = tt
rising_places a (suc (suc n)) = (omega arith, rising_places (suc a) (suc n))

not_in_places : (a n v : ℕ) → a + n ≤ v → has (places_from a n) v ≡ false
not_in_places a zero v l = refl
not_in_places a (suc n) v l = ap (λ b. cond b true (has (places_from (suc a) n) v)) (apart a n v l) ∙ not_in_places (suc a) n v (omega (arith, l))
  where
    apart : (a n v : ℕ) → a + suc n ≤ v → (a == v) ≡ false
    apart a n v l = grind (arith, nat_tests)

not_in_row : (words : List ℕ) (v : ℕ) → 64 * length words ≤ v → is_in words v ≡ false
not_in_row words v l = ap (λ x. bit_at x (v % 64) == 1) (get_or_past words (v / 64) 0 (omega (arith, l))) ∙ ap (λ x. x == 1) (bit_at-zero (v % 64))

pub values_rise : (words : List ℕ) → IsRising (values_of words)
unfolding values_of
values_rise words = filter_rises (is_in words) (places_from 0 (64 * length words)) (rising_places 0 (64 * length words))

pub has_values : (words : List ℕ) (v : ℕ) → has (values_of words) v ≡ is_in words v
unfolding values_of
has_values words v = has-filter (is_in words) (places_from 0 (64 * length words)) v ∙ by (cases_lt v (64 * length words))
  where
    by : ◌⊎◌ (v < 64 * length words) (64 * length words ≤ v) → (has (places_from 0 (64 * length words)) v && is_in words v) ≡ is_in words v
    by (inl l) = ap (λ b. b && is_in words v) (has_places 0 (64 * length words) v (omega arith) (omega (arith, l)))
    by (inr l) = ap (λ b. b && is_in words v) (not_in_places 0 (64 * length words) v (omega (arith, l))) ∙ sym (not_in_row words v l)

-- a list that rises is the set of a row if its values are the row's
pub values_are : (words xs : List ℕ) → IsRising xs → ((v : ℕ) → is_in words v ≡ has xs v) → values_of words ≡ xs
values_are words xs r h = same_rising (values_of words) xs (values_rise words) r (λ v. has_values words v ∙ h v)

---- What operations make of a set

pub no_values : values_of [] ≡ []
unfolding values_of
no_values = refl

pub places_are : (n v : ℕ) → has (places_from 0 n) v ≡ nat_lt v n
places_are n v = by (cases_lt v n)
  where
    not_less : (v n : ℕ) → n ≤ v → nat_lt v n ≡ false
    not_less v n l = grind (arith, nat_tests)

    by : ◌⊎◌ (v < n) (n ≤ v) → has (places_from 0 n) v ≡ nat_lt v n
    by (inl l) = has_places 0 n v (omega arith) (omega (arith, l)) ∙ sym (lt-ltb v n l)
    by (inr l) = not_in_places 0 n v (omega (arith, l)) ∙ sym (not_less v n l)

-- what was in the set
was : (words set : List ℕ) (v : ℕ) → values_of words ≡ set → is_in words v ≡ has set v
was words set v e = sym (has_values words v) ∙ ap (λ xs. has xs v) e

rose : (words set : List ℕ) → values_of words ≡ set → IsRising set
rose words set e = subst IsRising e (values_rise words)

or_cond : (a b : Bool) → (a || b) ≡ cond b true a
or_cond true true = refl
or_cond true false = refl
or_cond false true = refl
or_cond false false = refl

pub inserted_is : (before after set : List ℕ) (v : ℕ) → values_of before ≡ set → AreJoined (v / 64) (1 * 2 ^ (v % 64) % 2 ^ 64) before after → values_of after ≡ inserted v set
inserted_is before after set v e one =
    values_are after (inserted v set) (inserted_rises v set (rose before set e))
    (λ w. one w ∙ ap₂ (λ a b. a || b) (was before set w e) (one_value v w) ∙ or_cond (has set w) (v == w) ∙ sym (has_inserted v set w))

pub live_inserted : (before after set row : List ℕ) (live : List (List ℕ)) (node values : ℕ) → values_of before ≡ set → row ≡ get_or live node [] → ((v : ℕ) → is_in after v ≡ (is_in before v || (nat_lt v values && is_in row v))) → values_of after ≡ all_inserted (live_into values live node) set
live_inserted before after set row live node values e is all =
    values_are after (all_inserted (live_into values live node) set) (all_inserted_rises (live_into values live node) set (rose before set e))
    (λ w. all w ∙ ap₂ (λ a b. a || b) (was before set w e) (live_has w) ∙ or_cond (has set w) (has (live_into values live node) w) ∙ sym (has_all_inserted (live_into values live node) set w))
  where
    live_has : (w : ℕ) → (nat_lt w values && is_in row w) ≡ has (live_into values live node) w
    live_has w = ap₂ (λ a r. a && is_in r w) (sym (places_are values w)) is ∙ sym (has-filter (has_bit live node) (places_from 0 values) w)

pub filtered_is : (before after set : List ℕ) (p : ℕ → Bool) → values_of before ≡ set → ((v : ℕ) → is_in after v ≡ (is_in before v && p v)) → values_of after ≡ filter p set
filtered_is before after set p e kept =
    values_are after (filter p set) (filter_rises p set (rose before set e))
    (λ w. kept w ∙ ap (λ a. a && p w) (was before set w e) ∙ sym (has-filter p set w))

pub kept_is : (before after others set kept : List ℕ) → values_of before ≡ set → values_of others ≡ kept → ((v : ℕ) → is_in after v ≡ (is_in before v && is_in others v)) → values_of after ≡ filter (has kept) set
kept_is before after others set kept e f all = filtered_is before after set (has kept) e (λ v. all v ∙ ap (λ b. is_in before v && b) (was others kept v f))
