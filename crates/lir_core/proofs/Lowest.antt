-- The lowest bit of a row from a place on.
use Rattle.std.proofs.Common.{◌≡◌, ℕ, ◌+◌, ◌-◌, ◌*◌, ◌/◌, ◌%◌, ◌^◌, ◌<◌, ◌≤◌, ◌⊎◌, inl, inr, Bool, false, List, Option, Some, None, get_or, sym, ap, ◌∙◌, refl, subst, arith, w64}
use Rattle.std.specs.Prelude.{◌==◌}
use Rattle.std.specs.Int.{bit_at, trailing_zeros}
use Rattle.std.proofs.Math.Nat.{div-div-eq-div-mul, div-le_self, add-zero, le_trans}
use Rattle.std.proofs.lemmas.Nat.{pow-add}
use Rattle.std.proofs.lemmas.Bool.{eq-eqb, cases_lt}
use Rattle.std.proofs.lemmas.Nat.Bits.{bit_at-trailing_zeros, bit_at-zero, bit_at_above}
use Rattle.lir_core.specs.Rows.{is_in, NonePasses, IsLowest, IsNext}

-- bits of what a shift leaves
shifted : (n s i : ℕ) → bit_at (n / 2 ^ s) i ≡ bit_at n (s + i)
shifted n s i = ap (λ x. x % 2) (div-div-eq-div-mul n (2 ^ s) (2 ^ i) ∙ ap (λ x. n / x) (sym (pow-add 2 s i)))

-- a value of word w, by its bit
value_at : (row : List ℕ) (w i v : ℕ) → v / 64 ≡ w → v % 64 ≡ i → is_in row v ≡ (bit_at (get_or row w 0) i == 1)
value_at row w i v a b = ap (λ x. bit_at (get_or row x 0) (v % 64) == 1) a ∙ ap (λ x. bit_at (get_or row w 0) x == 1) b

unset : (b : ℕ) → b ≡ 0 → (b == 1) ≡ false
unset b e = ap (λ x. x == 1) e

not_both : (b : ℕ) → b ≡ 1 → b ≡ 0 → ⊥
not_both b e f = omega arith

-- a word without a bit from bit s on has no value there
pub none_in_word : (row : List ℕ) (w s : ℕ) → get_or row w 0 / 2 ^ s ≡ 0 → (v : ℕ) → v / 64 ≡ w → s ≤ v % 64 → is_in row v ≡ false
none_in_word row w s e v h l =
    let i : ℕ = v % 64 - s in
    let a : s + i ≡ v % 64 = omega arith in
    let b : bit_at (get_or row w 0) (v % 64) ≡ 0 = ap (bit_at (get_or row w 0)) (sym a) ∙ sym (shifted (get_or row w 0) s i) ∙ ap (λ x. bit_at x i) e ∙ bit_at-zero i in
    value_at row w (v % 64) v h refl ∙ unset _ b

-- no value is between bit s of a word and the bit that is the lowest from there on
none_between : (row : List ℕ) (w s t : ℕ) → s + t < 64 → ((i : ℕ) → i < t → bit_at (get_or row w 0 / 2 ^ s) i ≡ 0) → (v : ℕ) → w * 64 + s ≤ v → v < w * 64 + s + t → is_in row v ≡ false
none_between row w s t l before v f u =
    let i : ℕ = v - (w * 64 + s) in
    let g : i < t = omega arith in
    let c : v / 64 ≡ w = omega arith in
    let d : v % 64 ≡ s + i = omega arith in
    value_at row w (s + i) v c d ∙ unset _ (sym (shifted (get_or row w 0) s i) ∙ before i g)

-- the lowest bit of a word from bit s on is the lowest value from there on
module _ (row : List ℕ) (w s : ℕ) (b : get_or row w 0 < 2 ^ 64) (h : 0 < get_or row w 0 / 2 ^ s) where
  zeros : (trailing_zeros w64 (get_or row w 0 / 2 ^ s) < 64) × (bit_at (get_or row w 0 / 2 ^ s) (trailing_zeros w64 (get_or row w 0 / 2 ^ s)) ≡ 1) × ((i : ℕ) → i < trailing_zeros w64 (get_or row w 0 / 2 ^ s) → bit_at (get_or row w 0 / 2 ^ s) i ≡ 0)
  zeros =
      let e : get_or row w 0 / 2 ^ s ≤ get_or row w 0 = div-le_self (get_or row w 0) (2 ^ s) in
      let f : get_or row w 0 / 2 ^ s < 2 ^ 64 = omega arith in
      bit_at-trailing_zeros w64 (get_or row w 0 / 2 ^ s) h f

  pub lowest_below : s + trailing_zeros w64 (get_or row w 0 / 2 ^ s) < 64
  lowest_below = by_size (cases_lt (s + trailing_zeros w64 (get_or row w 0 / 2 ^ s)) 64)
    where
      by_size : ◌⊎◌ (s + trailing_zeros w64 (get_or row w 0 / 2 ^ s) < 64) (64 ≤ s + trailing_zeros w64 (get_or row w 0 / 2 ^ s)) → s + trailing_zeros w64 (get_or row w 0 / 2 ^ s) < 64
      by_size (inl l) = l
      by_size (inr l) =
          let e = shifted (get_or row w 0) s (trailing_zeros w64 (get_or row w 0 / 2 ^ s)) in
          let f = bit_at_above (get_or row w 0) 64 (s + trailing_zeros w64 (get_or row w 0 / 2 ^ s)) b l in
          absurd (not_both (bit_at (get_or row w 0 / 2 ^ s) (trailing_zeros w64 (get_or row w 0 / 2 ^ s))) zeros.1 (e ∙ f))

  pub lowest_in_word : IsLowest (is_in row) (w * 64 + s) (w * 64 + s + trailing_zeros w64 (get_or row w 0 / 2 ^ s))
  lowest_in_word = at_bits (trailing_zeros w64 (get_or row w 0 / 2 ^ s)) lowest_below zeros.1 zeros.2
    where
      at_bits : (t : ℕ) → s + t < 64 → bit_at (get_or row w 0 / 2 ^ s) t ≡ 1 → ((i : ℕ) → i < t → bit_at (get_or row w 0 / 2 ^ s) i ≡ 0) → IsLowest (is_in row) (w * 64 + s) (w * 64 + s + t)
      at_bits t l set before = record {
        at_least = omega arith;
        passes =
            let c : (w * 64 + s + t) / 64 ≡ w = omega arith in
            let d : (w * 64 + s + t) % 64 ≡ s + t = omega arith in
            value_at row w (s + t) (w * 64 + s + t) c d ∙ eq-eqb _ _ (sym (shifted (get_or row w 0) s t) ∙ set);
        none_before = λ v f u. none_between row w s t l before v f u;
      }

-- none up to a number, and the lowest from there on
pub joined : (p : ℕ → Bool) (from at v : ℕ) → from ≤ at → NonePasses p from at → IsLowest p at v → IsLowest p from v
joined p from at v l none low = record {
  at_least = le_trans l low.at_least;
  passes = low.passes;
  none_before = λ u m n. by_place u m n (cases_lt u at);
}
  where
    by_place : (u : ℕ) → from ≤ u → u < v → ◌⊎◌ (u < at) (at ≤ u) → p u ≡ false
    by_place u m n (inl k) = none u m k
    by_place u m n (inr k) = low.none_before u k n

pub none_joined : (p : ℕ → Bool) (from at to : ℕ) → NonePasses p from at → NonePasses p at to → NonePasses p from to
none_joined p from at to a b v l m = by_place (cases_lt v at)
  where
    by_place : ◌⊎◌ (v < at) (at ≤ v) → p v ≡ false
    by_place (inl k) = a v l k
    by_place (inr k) = b v k m

-- the lowest bit of a word behind words that have none
pub lowest_of_word : (row : List ℕ) (first w : ℕ) → first ≤ w → get_or row w 0 < 2 ^ 64 → 0 < get_or row w 0 → NonePasses (is_in row) (first * 64) (w * 64) → IsLowest (is_in row) (first * 64) (w * 64 + trailing_zeros w64 (get_or row w 0))
lowest_of_word row first w l b h none =
    let e : get_or row w 0 / 2 ^ 0 ≡ get_or row w 0 = omega arith in
    let f : 0 < get_or row w 0 / 2 ^ 0 = omega arith in
    let g : IsLowest (is_in row) (w * 64 + 0) (w * 64 + 0 + trailing_zeros w64 (get_or row w 0 / 2 ^ 0)) = lowest_in_word row w 0 b f in
    let i : w * 64 + 0 + trailing_zeros w64 (get_or row w 0 / 2 ^ 0) ≡ w * 64 + trailing_zeros w64 (get_or row w 0) = ap (λ x. w * 64 + 0 + trailing_zeros w64 x) e ∙ ap (λ x. x + trailing_zeros w64 (get_or row w 0)) (add-zero (w * 64)) in
    joined (is_in row) (first * 64) (w * 64 + 0) _ (omega arith) (λ v m n. none v m (omega arith)) (subst (IsLowest (is_in row) (w * 64 + 0)) i g)

---- From a value on

-- the word of a value has none from its bit on
pub none_here : (row : List ℕ) (from : ℕ) → get_or row (from / 64) 0 / 2 ^ (from % 64) ≡ 0 → NonePasses (is_in row) from ((from / 64 + 1) * 64)
none_here row from e v l m = none_in_word row (from / 64) (from % 64) e v (omega arith) (omega arith)

pub next_behind : (row : List ℕ) (from to : ℕ) (o : Option ℕ) → from ≤ to → NonePasses (is_in row) from to → IsNext (is_in row) to o → IsNext (is_in row) from o
next_behind row from to None l none h = none_joined (is_in row) from to (2 ^ 32) none h
next_behind row from to (Some v) l none h = joined (is_in row) from to v l none h

-- the lowest of a value's word from its bit on
pub lowest_here : (row : List ℕ) (from : ℕ) → get_or row (from / 64) 0 < 2 ^ 64 → 0 < get_or row (from / 64) 0 / 2 ^ (from % 64) → IsLowest (is_in row) from (from + trailing_zeros w64 (get_or row (from / 64) 0 / 2 ^ (from % 64)))
lowest_here row from b h =
    let e : from / 64 * 64 + from % 64 ≡ from = omega arith in
    subst (λ x. IsLowest (is_in row) x (x + trailing_zeros w64 (get_or row (from / 64) 0 / 2 ^ (from % 64)))) e (lowest_in_word row (from / 64) (from % 64) b h)
