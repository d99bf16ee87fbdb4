-- Turns that are spent one after the other.
use Rattle.std.proofs.Common.{◌≡◌, ℕ, zero, suc, ◌-◌, ◌<◌, ◌≤◌, true, refl, ap, ◌∙◌, arith}
use Rattle.run_laws.specs.Turns.{State, Gives, Spent, give, each_so}
use Rattle.ob_types.specs.Store.{Store, Trap, spend_all}

module _ (s : State Store) where
  abbrev with : ℕ → State Store
  with n = record s { turns = n }

  spends_from : (n i k : ℕ) → n ≤ k → each_so {C = Store} {U = Trap} n i (λ _. give true) (with k) ≡ Gives tt (with (k - n))
  spends_from zero i k h = let e : k ≡ k - 0 = omega arith in ap (λ m. Gives tt (with m)) e
  spends_from (suc n) i zero h = absurd (omega (arith, h))
  spends_from (suc n) i (suc k) h = let e : k - n ≡ suc k - suc n = omega arith in spends_from n (suc i) k (omega (arith, h)) ∙ ap (λ m. Gives tt (with m)) e

  spent_from : (n i k : ℕ) → k < n → each_so {C = Store} {U = Trap} n i (λ _. give true) (with k) ≡ Spent s.out
  spent_from zero i k h = absurd (omega (arith, h))
  spent_from (suc n) i zero h = refl
  spent_from (suc n) i (suc k) h = spent_from n (suc i) k (omega (arith, h))

  -- so many turns, where they are left, and where they aren't
  pub spends : (n : ℕ) → n ≤ s.turns → spend_all n s ≡ Gives tt (record s { turns = s.turns - n })
  spends n h = spends_from n 0 s.turns h

  pub spent : (n : ℕ) → s.turns < n → spend_all n s ≡ Spent s.out
  spent n h = spent_from n 0 s.turns h
