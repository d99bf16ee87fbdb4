-- Cells and bytes, as far as they are counted.
use Rattle.std.proofs.Common.{◌≡◌, ℕ, zero, suc, ◌+◌, ◌*◌, ◌<◌, ◌≤◌, ◌^◌, Bool, true, false, sym, ap, ap₂, ◌∙◌, arith, ◌⊎◌, inl, inr}
use Rattle.std.specs.Prelude.{min, nat_le, slice_get}
use Rattle.std.proofs.Math.Nat.{min-eq_left, min-eq_right, le-min}
use Rattle.std.proofs.lemmas.Bool.Decides.{nat_tests}
use Rattle.ob_types.specs.Trees.{round_up, with_part}
use Rattle.ob_types.specs.declared.types.Extent.{Extent}
use Rattle.ob_types.proofs.Tests.{less_or_past}
use Rattle.ob_judge.specs.Types.{limit}
use Rattle.ob_judge.specs.Shapes.{Shape, Array, Record, Boolean, Char, Byte, Known, cells, cells_of, extent, extent_in}
use Rattle.table_builder.specs.Cells.{most_cells, counted_extent}

-- so few are counted as they are
pub exact_cells : (n c : ℕ) → n ≡ min most_cells c → n ≤ 1048576 → n ≡ c
exact_cells n c e l = by (less_or_past c most_cells)
  where
    by : (c < most_cells) ⊎ (most_cells ≤ c) → n ≡ c
    by (inl m) = e ∙ min-eq_right (omega (arith, m))
    by (inr m) = let f : n ≡ 2 ^ 30 = e ∙ min-eq_left m in absurd (omega (arith, f, l))

pub few_cells : (n c : ℕ) → n ≡ min most_cells c → n ≤ 1048576 → nat_le c limit ≡ true
few_cells n c e l = let f = exact_cells n c e l in grind (arith, nat_tests, f, l)

pub many_cells : (n c : ℕ) → n ≡ min most_cells c → 1048576 < n → nat_le c limit ≡ false
many_cells n c e l = let k : 1048576 < c = by (less_or_past c most_cells) in grind (arith, nat_tests, k)
  where
    by : (c < most_cells) ⊎ (most_cells ≤ c) → 1048576 < c
    by (inl m) = let f : n ≡ c = e ∙ min-eq_right (omega (arith, m)) in omega (arith, f, l)
    by (inr m) = omega (arith, m)

module _ (m k a b : ℕ) (room : m + m ≤ k) where
  small : a < m → b < m → min m (min (a + b) k) ≡ min m (a + b)
  small p q = ap (min m) (min-eq_left (omega (arith, p, q, room)))

  full : (x y : ℕ) → m ≤ x + y → min m (min (x + y) k) ≡ m
  full x y h = min-eq_left (le-min h (omega (arith, room)))

  -- the sum of two counts
  pub capped_sum : min m (min (min m a + min m b) k) ≡ min m (a + b)
  capped_sum = by (less_or_past a m) (less_or_past b m)
    where
      by : (a < m) ⊎ (m ≤ a) → (b < m) ⊎ (m ≤ b) → min m (min (min m a + min m b) k) ≡ min m (a + b)
      by (inl p) (inl q) =
          ap₂ (λ x y. min m (min (x + y) k)) (min-eq_right (omega (arith, p))) (min-eq_right (omega (arith, q))) ∙ small p q
      by (inl p) (inr q) = full (min m a) (min m b) (let e = min-eq_left q in omega (arith, e)) ∙ sym (min-eq_left (omega (arith, q)))
      by (inr p) q = full (min m a) (min m b) (let e = min-eq_left p in omega (arith, e)) ∙ sym (min-eq_left (omega (arith, p)))

-- ---- bytes

pub counted_is : (n w : ℕ) → n ≤ w → w ≤ most_cells → min most_cells n ≡ n
counted_is n w l h = min-eq_right (omega (arith, l, h))

-- a cell takes eight bytes at most, also as far as both are counted
pub narrow_counted : (n c : ℕ) → n ≤ 8 * c → min most_cells n ≤ 8 * min most_cells c
narrow_counted n c l = by (less_or_past c most_cells) (less_or_past n most_cells)
  where
    by : (c < most_cells) ⊎ (most_cells ≤ c) → (n < most_cells) ⊎ (most_cells ≤ n) → min most_cells n ≤ 8 * min most_cells c
    by (inl p) (inl q) = let a = min-eq_right {n = c} {m = most_cells} (omega (arith, p)) in let b = min-eq_right {n = n} {m = most_cells} (omega (arith, q)) in omega (arith, a, b, l)
    by (inl p) (inr q) = let a = min-eq_right {n = c} {m = most_cells} (omega (arith, p)) in let b = min-eq_left {n = most_cells} {m = n} q in omega (arith, a, b, l, q)
    by (inr p) (inl q) = let a = min-eq_left {n = most_cells} {m = c} p in let b = min-eq_right {n = n} {m = most_cells} (omega (arith, q)) in omega (arith, a, b, q)
    by (inr p) (inr q) = let a = min-eq_left {n = most_cells} {m = c} p in let b = min-eq_left {n = most_cells} {m = n} q in omega (arith, a, b)

pub narrow_rounded : (w : Bool) (n c : ℕ) → n ≤ 8 * c → round_up w n ≤ 8 * c
narrow_rounded true n c l = omega (arith, l)
narrow_rounded false n c l = l

-- so few are counted as they are
pub exact_extent : (x : Extent) (c : ℕ) → x.bytes ≤ 8 * c → c ≤ 1048576 → counted_extent x ≡ x
exact_extent x c narrow few = ap (λ (n : ℕ). record { bytes = n; wide = x.wide }) (counted_is x.bytes (8 * c) narrow (omega (arith, few)))

-- one more part, of what is counted

rounded_counted : (w : Bool) (a : ℕ) → (most_cells ≤ a → most_cells ≤ round_up w (min most_cells a)) × (a < most_cells → round_up w (min most_cells a) ≡ round_up w a)
rounded_counted true a = (λ l. let e = min-eq_left {n = most_cells} {m = a} l in omega (arith, e), λ l. ap (round_up true) (min-eq_right (omega (arith, l))))
rounded_counted false a = (λ l. let e = min-eq_left {n = most_cells} {m = a} l in omega (arith, e), λ l. min-eq_right (omega (arith, l)))

rounded_past : (w : Bool) (a : ℕ) → most_cells ≤ a → most_cells ≤ round_up w a
rounded_past true a l = omega (arith, l)
rounded_past false a l = l

pub counted_part : (x y : Extent) → counted_extent (with_part (counted_extent x) (counted_extent y)) ≡ counted_extent (with_part x y)
counted_part x y = ap (λ (n : ℕ). record { bytes = n; wide = (with_part x y).wide }) (by (less_or_past x.bytes most_cells) (less_or_past y.bytes most_cells))
  where
    by : (x.bytes < most_cells) ⊎ (most_cells ≤ x.bytes) → (y.bytes < most_cells) ⊎ (most_cells ≤ y.bytes) → min most_cells (round_up y.wide (min most_cells x.bytes) + min most_cells y.bytes) ≡ min most_cells (round_up y.wide x.bytes + y.bytes)
    by (inl p) (inl q) = ap₂ (λ a b. min most_cells (a + b)) ((rounded_counted y.wide x.bytes).1 p) (min-eq_right (omega (arith, q)))
    by (inl p) (inr q) = let e = min-eq_left {n = most_cells} {m = y.bytes} q in min-eq_left (omega (arith, e)) ∙ sym (min-eq_left (omega (arith, q)))
    by (inr p) q = let a = (rounded_counted y.wide x.bytes).0 p in let b = rounded_past y.wide x.bytes p in min-eq_left (omega (arith, a)) ∙ sym (min-eq_left (omega (arith, b)))

-- ---- what shapes take

times_narrow : (n a b : ℕ) → a ≤ 8 * b → n * a ≤ 8 * (n * b)
times_narrow zero a b l = omega arith
times_narrow (suc n) a b l = let z = times_narrow n a b l in
    let x : suc n * a ≡ a + n * a = omega arith in let y : suc n * b ≡ b + n * b = omega arith in omega (arith, z, l, x, y)

-- where record types take at most eight bytes a cell, all types do
pub shapes_narrow : (known : Known) → ((r : ℕ) → (extent_in (slice_get known.records r)).bytes ≤ 8 * cells_of (slice_get known.records r)) → (a : Shape) → (extent known a).bytes ≤ 8 * cells known a
shapes_narrow known h (Array n a) = times_narrow n (extent known a).bytes (cells known a) (shapes_narrow known h a)
shapes_narrow known h (Record r) = h r
shapes_narrow known h Char = omega arith
shapes_narrow known h Byte = omega arith
shapes_narrow known h Boolean = omega arith
shapes_narrow known h a = omega arith
