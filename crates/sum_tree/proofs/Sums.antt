-- Sums along the way from a root, and the hints that they come with.
use Rattle.std.proofs.Common.{◌≡◌, ℕ, zero, suc, ◌+◌, ◌%◌, ◌^◌, ◌<◌, List, sym, refl, ap, ◌∙◌, arith}
use Rattle.std.specs.Prelude.{Option, Some, None}
use mathlib.Core.Option as m
use mathlib.Core.Option.{some}
use lib.ListN.{get_elem?}
use Rattle.pool_core.specs.Tree.{IsTree}
use Rattle.pool_core.specs.Fits.{FitsAt}
use Rattle.sum_tree.specs.Values.{added, sum_along, path_sum}

module _ (P : List (Option ℕ)) (number : ℕ → ℕ) (tree : IsTree P) where
  same_added : (f g : ℕ → ℕ) (t : ℕ) (o : m.Option (Option ℕ)) → ((p : ℕ) → o ≡ some (Some p) → f p ≡ g p) → added P number f t o ≡ added P number g t o
  same_added f g t (m.some (Some p)) h = ap (λ k. (k + number t) % 2 ^ 64) (h p refl)
  same_added f g t (m.some None) h = refl
  same_added f g t m.none h = refl

  -- more steps than there are traces above change nothing
  enough : (n k t : ℕ) → t < n → t < k → sum_along P number n t ≡ sum_along P number k t
  enough zero k t a b = absurd (omega arith)
  enough (suc n) zero t a b = absurd (omega arith)
  enough (suc n) (suc k) t a b = same_added (sum_along P number n) (sum_along P number k) t (get_elem? P t) (λ p at. let less = tree t p at in enough n k p (omega arith) (omega arith))

  pub root_sum : (t : ℕ) → get_elem? P t ≡ some None → number t ≡ path_sum P number t
  root_sum t at = sym (ap (added P number (sum_along P number t) t) at)

  pub child_sum : (t p : ℕ) → get_elem? P t ≡ some (Some p) → (path_sum P number p + number t) % 2 ^ 64 ≡ path_sum P number t
  child_sum t p at = let less = tree t p at in
      ap (λ k. (k + number t) % 2 ^ 64) (enough (suc p) t p (omega arith) (omega arith)) ∙ sym (ap (added P number (sum_along P number t) t) at)

-- a trace that runs without a hint has no parent, and one that runs with a hint has one, and the hint fits
pub no_hint : {H : Type 0} (o : m.Option (Option ℕ)) (fits : H → Type 0) → FitsAt o fits None → o ≡ some None
no_hint (m.some (Some p)) fits h = absurd h
no_hint (m.some None) fits h = refl
no_hint m.none fits h = absurd h

pub some_hint : {H : Type 0} (o : m.Option (Option ℕ)) (fits : H → Type 0) (x : H) → FitsAt o fits (Some x) → fits x
some_hint (m.some (Some p)) fits x h = h
some_hint (m.some None) fits x h = absurd h
some_hint m.none fits x h = absurd h
