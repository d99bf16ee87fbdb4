-- A value that joins a row is there, and nothing else changes.
use Rattle.std.proofs.Common.{◌≡◌, ◌≢◌, ℕ, ◌+◌, ◌*◌, ◌/◌, ◌%◌, ◌^◌, ◌<◌, ◌==◌, true, false, cond, List, [], length, get_or, sym, ap, ◌∙◌, arith, inl, inr, ◌⊎◌, w64}
use Rattle.std.proofs.Math.ListN.{set}
use Rattle.std.proofs.lemmas.List.{get_or-set_same, get_or-set_other}
use Rattle.std.proofs.lemmas.List.Sums.{sum_by-set}
use Rattle.std.proofs.lemmas.Nat.Bits.{bit_at_set_same, bit_at_set_other}
use Rattle.std.proofs.lemmas.Bool.{eq-eqb, ltb-true, cases_eq, and_parts, not-true}
use Rattle.std.specs.Prelude.{nat_lt}
use Rattle.std.specs.List.{sum_by}
use Rattle.std.specs.Int.{bit_at}
use Rattle.std.specs.Int.Bits.{bit_or}
use Rattle.lir_core.specs.Rows.{is_in, has_bit}
use Rattle.global_live.specs.Rows.{row_at, has_room, is_new, with_value, with_bit}

low : (v : ℕ) → v % 64 < 64
low v = omega arith

pub value_in : (row : List ℕ) (v : ℕ) → v / 64 < length row → is_in (with_value row v) v ≡ true
value_in row v h =
    let x = bit_or (get_or row (v / 64) 0) (1 * 2 ^ (v % 64) % 2 ^ 64) in
    let a : get_or (set row (v / 64) x) (v / 64) 0 ≡ x = get_or-set_same row (v / 64) x 0 h in
    let b : bit_at x (v % 64) ≡ 1 = bit_at_set_same w64 (get_or row (v / 64) 0) (v % 64) (low v) in
    eq-eqb _ _ (ap (λ y. bit_at y (v % 64)) a ∙ b)

pub value_beside : (row : List ℕ) (v w : ℕ) → v / 64 < length row → w ≢ v → is_in (with_value row v) w ≡ is_in row w
value_beside row v w h ne = by_word (cases_eq (w / 64) (v / 64))
  where
    x : ℕ
    x = bit_or (get_or row (v / 64) 0) (1 * 2 ^ (v % 64) % 2 ^ 64)

    by_word : ◌⊎◌ (w / 64 ≡ v / 64) (w / 64 ≡ v / 64 → ⊥) → is_in (with_value row v) w ≡ is_in row w
    by_word (inl e) =
        let d : w % 64 ≢ v % 64 = omega arith in
        let a : get_or (set row (v / 64) x) (v / 64) 0 ≡ x = get_or-set_same row (v / 64) x 0 h in
        let b : bit_at x (w % 64) ≡ bit_at (get_or row (v / 64) 0) (w % 64) = bit_at_set_other w64 (get_or row (v / 64) 0) (v % 64) (low v) (w % 64) d in
        ap (λ y. bit_at y (w % 64) == 1) (ap (λ i. get_or (set row (v / 64) x) i 0) e ∙ a) ∙ ap (λ y. y == 1) b ∙ ap (λ i. bit_at (get_or row i 0) (w % 64) == 1) (sym e)
    by_word (inr d) = ap (λ y. bit_at y (w % 64) == 1) (get_or-set_other row (v / 64) (w / 64) x 0 d)

---- Rows

module _ (rows : List (List ℕ)) (n v : ℕ) (room : has_room rows n v ≡ true) where
  there : n < length rows
  there = ltb-true _ _ (and_parts (nat_lt n (length rows)) _ room).0

  word : v / 64 < length (row_at rows n)
  word = ltb-true _ _ (and_parts (nat_lt n (length rows)) _ room).1

  row_is : (d : List ℕ) → get_or (with_bit rows n v) n d ≡ with_value (row_at rows n) v
  row_is d = get_or-set_same rows n (with_value (row_at rows n) v) d there

  pub bit_in : has_bit (with_bit rows n v) n v ≡ true
  bit_in = ap (λ r. is_in r v) (row_is []) ∙ value_in (row_at rows n) v word

  pub bit_beside : (w : ℕ) → w ≢ v → has_bit (with_bit rows n v) n w ≡ has_bit rows n w
  bit_beside w ne = ap (λ r. is_in r w) (row_is []) ∙ value_beside (row_at rows n) v w word ne

  pub bit_elsewhere : (m w : ℕ) → m ≢ n → has_bit (with_bit rows n v) m w ≡ has_bit rows m w
  bit_elsewhere m w ne = ap (λ r. is_in r w) (get_or-set_other rows n m (with_value (row_at rows n) v) [] ne)

  -- what was there stays
  pub bit_stays : (m w : ℕ) → has_bit rows m w ≡ true → has_bit (with_bit rows n v) m w ≡ true
  bit_stays m w h = by_node (cases_eq m n)
    where
      by_value : m ≡ n → ◌⊎◌ (w ≡ v) (w ≡ v → ⊥) → has_bit (with_bit rows n v) m w ≡ true
      by_value e (inl f) = ap (λ i. has_bit (with_bit rows n v) i w) e ∙ ap (λ i. has_bit (with_bit rows n v) n i) f ∙ bit_in
      by_value e (inr d) = ap (λ i. has_bit (with_bit rows n v) i w) e ∙ bit_beside w d ∙ ap (λ i. has_bit rows i w) (sym e) ∙ h

      by_node : ◌⊎◌ (m ≡ n) (m ≡ n → ⊥) → has_bit (with_bit rows n v) m w ≡ true
      by_node (inl e) = by_value e (cases_eq w v)
      by_node (inr d) = bit_elsewhere m w d ∙ h

  -- what is there was there, or is what joined
  pub bit_from : (m w : ℕ) → has_bit (with_bit rows n v) m w ≡ true → ◌⊎◌ (has_bit rows m w ≡ true) ((m ≡ n) × (w ≡ v))
  bit_from m w h = by_node (cases_eq m n)
    where
      by_value : m ≡ n → ◌⊎◌ (w ≡ v) (w ≡ v → ⊥) → ◌⊎◌ (has_bit rows m w ≡ true) ((m ≡ n) × (w ≡ v))
      by_value e (inl f) = inr (e, f)
      by_value e (inr d) = inl (ap (λ i. has_bit rows i w) e ∙ sym (bit_beside w d) ∙ ap (λ i. has_bit (with_bit rows n v) i w) (sym e) ∙ h)

      by_node : ◌⊎◌ (m ≡ n) (m ≡ n → ⊥) → ◌⊎◌ (has_bit rows m w ≡ true) ((m ≡ n) × (w ≡ v))
      by_node (inl e) = by_value e (cases_eq w v)
      by_node (inr d) = inl (sym (bit_elsewhere m w d) ∙ h)

---- Counting

-- 1 for a row without the value
abbrev pub lacks : ℕ → List ℕ → ℕ
lacks v row = cond (is_in row v) 0 1

-- how many rows are without a value
abbrev pub lacking : ℕ → List (List ℕ) → ℕ
lacking v rows = sum_by (lacks v) rows

pub lacking_falls : (rows : List (List ℕ)) (n v : ℕ) → is_new rows n v ≡ true → lacking v (with_bit rows n v) + 1 ≡ lacking v rows
lacking_falls rows n v new =
    let room : has_room rows n v ≡ true = (and_parts (has_room rows n v) _ new).0 in
    let unset : has_bit rows n v ≡ false = not-true _ (and_parts (has_room rows n v) _ new).1 in
    let h = sum_by-set (lacks v) rows n (with_value (row_at rows n) v) [] (there rows n v room) in
    let a : lacks v (with_value (row_at rows n) v) ≡ 0 = ap (λ b. cond b 0 1) (value_in (row_at rows n) v (word rows n v room)) in
    let b : lacks v (row_at rows n) ≡ 1 = ap (λ b. cond b 0 1) unset in
    omega (arith, h, a, b)
