-- The rule holds when the pool opens.
use Rattle.std.proofs.Common.{◌≡◌, ℕ, zero, suc, ◌+◌, ◌-◌, ◌*◌, ◌<◌, List, [], ◌∷◌, ◌++◌, map, replicate, length, get_or, sym, refl, ap, ◌∙◌, subst, arith, min, length-append}
use Rattle.std.proofs.lemmas.List.{length-replicate}
use Rattle.std.specs.Prelude.{Option}
use mathlib.Core.Logic.{dite}
use native.Mathlib.Decide.{ℕ_discrete, dec_lt}
use mathlib.Core.Option.{some, some-injective, some-ne-none}
use lib.ListN.{get_elem?}
use Rattle.pool_core.specs.Sums.{total, hit, under, times}
use Rattle.pool_core.specs.Tree.{roots, children}
use Rattle.pool_core.specs.Rule.{ticket, place, having, is_stopped, filled, showing, spread, both, taken, taken_at, size, Fair, Rule}
use Rattle.pool_core.specs.Runs.{fresh, opening}
use Rattle.pool_core.specs.Machine.{one_share}
use Rattle.pool_core.specs.declared.model.Worker.{Worker}
use Rattle.pool_core.proofs.Sums.{hit_same, hit_else, under_in, under_out, total_le, total-zero}
use Rattle.pool_core.proofs.Trees.{spread_le}

under-step : (c n : ℕ) → under (suc c) (suc n) ≡ under c n
under-step c n = dite (dec_lt c n) (λ h. under_in (suc c) (suc n) (omega arith) ∙ sym (under_in c n h)) (λ h. under_out (suc c) (suc n) (omega arith) ∙ sym (under_out c n (omega arith)))

zero_there : (k c : ℕ) → get_or {A = ℕ} (replicate k 0) c 0 ≡ 0
zero_there zero c = refl
zero_there (suc k) zero = refl
zero_there (suc k) (suc c) = zero_there k c

shown_cells : (xs : List ℕ) (k c : ℕ) → filled (get_or (map suc xs ++ replicate k 0) c 0) ≡ under c (length xs)
shown_cells [] k c = ap filled (zero_there k c) ∙ sym (under_out c 0 (omega arith))
shown_cells (x ∷ xs) k zero = sym (under_in 0 (length (x ∷ xs)) (omega arith))
shown_cells (x ∷ xs) k (suc c) = shown_cells xs k c ∙ sym (under-step c (length xs))

pub raised : (xs : List ℕ) → length (map suc xs) ≡ length xs
raised [] = refl
raised (x ∷ xs) = omega (arith, raised xs)

no_zero : (t k : ℕ) → times (suc t) (replicate k 0) ≡ 0
no_zero t zero = refl
no_zero t (suc k) = omega (arith, hit_else (suc t) 0 (λ e. omega arith), no_zero t k)

both_hit : (u c : ℕ) → hit (suc u) (suc c) ≡ hit u c
both_hit u c = dite (ℕ_discrete u c) (λ e. hit_same (suc u) (suc c) (ap suc e) ∙ sym (hit_same u c e)) (λ n. hit_else (suc u) (suc c) (λ e. n (omega arith)) ∙ sym (hit_else u c n))

times_shown : (t k : ℕ) (xs : List ℕ) → times (suc t) (map suc xs ++ replicate k 0) ≡ times t xs
times_shown t k [] = no_zero t k
times_shown t k (x ∷ xs) = omega (arith, both_hit t x, times_shown t k xs)

module _ (P : List (Option ℕ)) (whole : ℕ) (ws : List Worker) (new : (j : ℕ) (u : Worker) → get_elem? ws j ≡ some u → (0 < u.share) × (u ≡ fresh u.share)) (sum : total (λ u. u.share) ws ≡ whole) where
  nought : (f : Worker → ℕ) → ((share : ℕ) → f (fresh share) ≡ 0) → total f ws ≡ 0
  nought f h = omega (arith, total_le f (λ _. 0) ws (λ j u at. let n = new j u at in omega (arith, ap f n.1, h u.share)), total-zero ws)

  pub opens : Rule P whole [] (opening P ws)
  opens = record {
    wide = omega (arith, length-append (map suc (roots P)) (replicate (length P - length (roots P)) 0), raised (roots P), length-replicate (length P - length (roots P)) zero, spread_le P 0);
    heads = nought (λ u. u.draws) (λ _. refl);
    shares = sum;
    fair = λ j u at. let n = new j u at in record { bounded = omega (arith, ap (λ (x : Worker). x.draws) n.1); within = subst (λ (x : Worker). Rattle.pool_core.specs.Rule.Within P x.stage) (sym n.1) tt; spent = λ z. absurd (omega (arith, n.0)) };
    cells = λ c. omega (arith, shown_cells (roots P) (length P - length (roots P)) c, nought (λ u. place c u.stage) (λ _. refl));
    tails = omega (arith, nought (λ u. spread P u.stage + total (size P) u.finished) (λ _. refl));
    tickets = λ c. omega (arith, nought (λ u. ticket c u.stage) (λ _. refl), none_at (get_or (map suc (roots P) ++ replicate (length P - length (roots P)) 0) c 0), under_out c (min 0 (length P)) (omega arith));
    known = λ t. omega (arith, nought (λ u. having (hit t) u.stage + total (hit t) u.finished) (λ _. refl));
    shown = λ t. omega (arith, times_shown t (length P - length (roots P)) (roots P), nought (λ u. showing P (hit t) u.stage + total (λ p. times t (children P p)) u.finished) (λ _. refl));
    counted = nought (λ u. length u.finished) (λ _. refl);
    lost_within = λ i g at. absurd (some-ne-none g (sym at));
    given_up = λ _. refl;
    unset = λ _. nought (λ u. is_stopped u.stage) (λ _. refl);
  }
    where
      none_at : (x : ℕ) → taken_at P x ws [] ≡ 0
      none_at zero = refl
      none_at (suc t) = omega (arith, nought (λ u. having (hit t) u.stage + total (hit t) u.finished) (λ _. refl))

-- as many workers, each with the same share
pub opens_with : (P : List (Option ℕ)) (n : ℕ) → Rule P (n * one_share) [] (opening P (replicate n (fresh one_share)))
opens_with P n = opens P (n * one_share) (replicate n (fresh one_share)) (new n) (shares n)
  where
    new : (n j : ℕ) (u : Worker) → get_elem? (replicate n (fresh one_share)) j ≡ some u → (0 < u.share) × (u ≡ fresh u.share)
    new zero j u at = absurd (some-ne-none u (sym at))
    new (suc n) zero u at = let same : u ≡ fresh one_share = sym (some-injective (fresh one_share) u at) in (omega (arith, ap (λ (x : Worker). x.share) same), same ∙ ap (λ (x : Worker). fresh x.share) (sym same))
    new (suc n) (suc j) u at = new n j u at

    shares : (n : ℕ) → total (λ u. u.share) (replicate n (fresh one_share)) ≡ n * one_share
    shares zero = refl
    shares (suc n) = omega (arith, shares n)
