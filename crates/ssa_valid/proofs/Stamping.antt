-- What stamps say after one more.
use Rattle.std.proofs.Common.{◌≡◌, ◌≢◌, ℕ, ◌+◌, ◌<◌, ◌==◌, true, cond, List, length, Option, Some, None, refl, sym, ap, ◌∙◌, arith, inl, inr, ◌⊎◌}
use Rattle.std.proofs.lemmas.List.{get_or-set_same, get_or-set_other}
use Rattle.std.proofs.lemmas.List.Sums.{sum_by-set}
use Rattle.std.proofs.lemmas.Bool.{eqb-true, eq-eqb, ltb-true, cases_eq, and_parts, not-true}
use Rattle.std.specs.Prelude.{nat_lt, slice_index_or}
use Rattle.std.specs.List.{sum_by}
use Rattle.ssa_valid.specs.Order.{is_last, is_stamped, stamped, is_new}

module _ (stamps : List (Option ℕ)) (k s : ℕ) where
  pub stamp_in : k < length stamps → is_stamped (stamped stamps k s) k s ≡ true
  stamp_in there = ap (is_last s) (get_or-set_same stamps k (Some s) None there) ∙ eq-eqb s s refl

  pub stamp_beside : (m w : ℕ) → m ≢ k → is_stamped (stamped stamps k s) m w ≡ is_stamped stamps m w
  stamp_beside m w ne = ap (is_last w) (get_or-set_other stamps k m (Some s) None ne)

  pub stamp_from : (m w : ℕ) → k < length stamps → is_stamped (stamped stamps k s) m w ≡ true → ◌⊎◌ (is_stamped stamps m w ≡ true) ((m ≡ k) × (w ≡ s))
  stamp_from m w there h = by (cases_eq m k)
    where
      by : ◌⊎◌ (m ≡ k) (m ≡ k → ⊥) → ◌⊎◌ (is_stamped stamps m w ≡ true) ((m ≡ k) × (w ≡ s))
      by (inl e) =
          let a : is_stamped (stamped stamps k s) m w ≡ (s == w) = ap (λ i. is_stamped (stamped stamps k s) i w) e ∙ ap (is_last w) (get_or-set_same stamps k (Some s) None there) in
          inr (e, sym (eqb-true s w (sym a ∙ h)))
      by (inr d) = inl (sym (stamp_beside m w d) ∙ h)

  -- of the same stamp, what was there stays
  pub stamp_stays : (m : ℕ) → k < length stamps → is_stamped stamps m s ≡ true → is_stamped (stamped stamps k s) m s ≡ true
  stamp_stays m there h = by (cases_eq m k)
    where
      by : ◌⊎◌ (m ≡ k) (m ≡ k → ⊥) → is_stamped (stamped stamps k s) m s ≡ true
      by (inl e) = ap (λ i. is_stamped (stamped stamps k s) i s) e ∙ stamp_in there
      by (inr d) = stamp_beside m s d ∙ h

---- Counting

-- 1 for a number without the stamp
abbrev pub lacks : ℕ → Option ℕ → ℕ
lacks s x = cond (is_last s x) 0 1

pub lacking_falls : (stamps : List (Option ℕ)) (k s : ℕ) → is_new stamps k s ≡ true → sum_by (lacks s) (stamped stamps k s) + 1 ≡ sum_by (lacks s) stamps
lacking_falls stamps k s new =
    let parts = and_parts (nat_lt k (length stamps)) _ new in
    let h = sum_by-set (lacks s) stamps k (Some s) None (ltb-true _ _ parts.0) in
    let a : lacks s (Some s) ≡ 0 = ap (λ b. cond b 0 1) (eq-eqb s s refl) in
    let b : lacks s (slice_index_or stamps k None) ≡ 1 = ap (λ b. cond b 0 1) (not-true _ parts.1) in
    omega (arith, h, a, b)
