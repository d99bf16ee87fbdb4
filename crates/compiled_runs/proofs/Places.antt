-- The code of placed procedures lies at different addresses of 64 bits.
use Rattle.std.proofs.Common.{◌≡◌, ℕ, zero, suc, ◌<◌, ◌≤◌, ◌^◌, ◌⊎◌, inl, inr, ⊎_elim, List, length, refl, ap, arith}
use Rattle.block_runs.specs.Points.{AreCodePlaces}
use Rattle.placed_code.specs.Placed.{Placed}
use Rattle.placed_code.specs.Layout.{all_words, entry}
use Rattle.placed_code.specs.Claims.{code_places}
use Rattle.placed_code.proofs.Rising.{entry_rises, entry_within}

order : (p q : ℕ) → (p < q) ⊎ ((p ≡ q) ⊎ (q < p))
order zero zero = inr (inl refl)
order zero (suc q) = inl (omega arith)
order (suc p) zero = inr (inr (omega arith))
order (suc p) (suc q) = ⊎_elim (λ l. inl (omega (arith, l))) (λ r. inr (⊎_elim (λ e. inl (ap suc e)) (λ l. inr (omega (arith, l))) r)) (order p q)

apart : (ps : List Placed) (p q : ℕ) → p < length ps → q < length ps → entry ps p ≡ entry ps q → p ≡ q
apart ps p q l m e = by_order (order p q)
  where
    by_order : (p < q) ⊎ ((p ≡ q) ⊎ (q < p)) → p ≡ q
    by_order (inl a) = let r = entry_rises ps p q a (omega (arith, m)) in absurd (omega (arith, r, e))
    by_order (inr (inl a)) = a
    by_order (inr (inr a)) = let r = entry_rises ps q p a (omega (arith, l)) in absurd (omega (arith, r, e))

pub are_code_places : (ps : List Placed) (n : ℕ) → n ≡ length ps → length (all_words ps) ≤ 2 ^ 18 → AreCodePlaces n (code_places ps)
are_code_places ps n e few = record {
  few = λ p l. let w = entry_within ps p (omega (arith, l, e)) in omega (arith, w, few);
  nowhere = λ p l z. absurd (omega (arith, z));
  apart = λ p q l m c. apart ps p q (omega (arith, l, e)) (omega (arith, m, e)) (omega (arith, c));
}
