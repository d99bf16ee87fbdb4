-- Counts of cells, as far as they are counted.
use Rattle.std.proofs.Common.{◌≡◌, ℕ, zero, suc, ◌*◌, ◌<◌, ◌≤◌, sym, ap, ◌∙◌, arith, ◌⊎◌, inl, inr}
use Rattle.std.specs.Prelude.{min}
use Rattle.std.proofs.Math.Nat.{min-eq_left, min-eq_right, le-mul_of_pos_right, mul_comm, mul-zero}
use Rattle.ob_types.proofs.Tests.{less_or_past}

-- a factor counted as far
pub capped_mul : (m a c : ℕ) → min m (min m a * c) ≡ min m (a * c)
capped_mul m a c = by (less_or_past a m) c
  where
    by : (a < m) ⊎ (m ≤ a) → (c : ℕ) → min m (min m a * c) ≡ min m (a * c)
    by (inl l) c = ap (λ n. min m (n * c)) (min-eq_right (omega (arith, l)))
    by (inr l) zero = ap (min m) (mul-zero (min m a) ∙ sym (mul-zero a))
    by (inr l) (suc c) =
        let h = le-mul_of_pos_right {m = suc c} m (omega arith) in
        let k = le-mul_of_pos_right {m = suc c} a (omega arith) in
        ap (λ n. min m (n * suc c)) (min-eq_left l) ∙ min-eq_left h ∙ sym (min-eq_left (omega (arith, l, k)))

pub capped_factor : (m a c : ℕ) → min m (a * min m c) ≡ min m (a * c)
capped_factor m a c = ap (min m) (mul_comm a (min m c)) ∙ capped_mul m c a ∙ ap (min m) (mul_comm c a)

-- both factors counted as far
pub capped_both : (m a c : ℕ) → min m (min m a * min m c) ≡ min m (a * c)
capped_both m a c = capped_mul m a (min m c) ∙ capped_factor m a c
