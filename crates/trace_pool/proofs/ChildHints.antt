-- Hints that are made one after another.
use Rattle.std.proofs.Common.{◌≡◌, ℕ, zero, suc, ◌+◌, ◌<◌, ◌≤◌, List, [], ◌∷◌, ◌++◌, Bool, true, false, length, take, true≢false, sym, refl, ap, ◌∙◌, subst, arith}
use Rattle.std.specs.Prelude.{Option, Some, None, slice_get}
use Rattle.std.proofs.lemmas.Bool.{eqb-true}
use mathlib.Core.Option.{some, some-ne-none}
use lib.ListN.{get_elem?}
use Rattle.pool_core.specs.Tree.{is_child, put_if, picked, children}
use Rattle.trace_pool.specs.Sits.{HintsFit}

module _ {H : Type 0} (fits : ℕ → H → Type 0) where
  grown : (cs : List ℕ) (xs : List (ℕ × H)) (n c : ℕ) (h : H) → n ≡ length xs → HintsFit fits (take n cs) xs → slice_get cs n ≡ Some c → fits c h → HintsFit fits (take (suc n) cs) (xs ++ (c, h) ∷ [])
  grown [] xs n c h len before at fit = absurd (let z : ⊥ = cc in z)
  grown (d ∷ cs) [] zero c h len before at fit = let same : d ≡ c = cc in (sym same, subst (λ k. fits k h) (sym same) fit, tt)
  grown (d ∷ cs) [] (suc n) c h len before at fit = absurd (omega arith)
  grown (d ∷ cs) (x ∷ xs) zero c h len before at fit = absurd (omega arith)
  grown (d ∷ cs) (x ∷ xs) (suc n) c h len before at fit = (before.0, before.1, grown cs xs n c h (omega arith) before.2 at fit)

  pub fits_more : (cs : List ℕ) (xs ys : List (ℕ × H)) (c : ℕ) (h : H) → ys ≡ xs ++ (c, h) ∷ [] → length ys ≡ length xs + 1 → HintsFit fits (take (length xs) cs) xs → slice_get cs (length xs) ≡ Some c → fits c h → HintsFit fits (take (length ys) cs) ys
  fits_more cs xs ys c h is long before at fit = let n : length ys ≡ suc (length xs) = omega arith in
      subst (λ k. HintsFit fits (take k cs) ys) (sym n) (subst (λ l. HintsFit fits (take (suc (length xs)) cs) l) (sym is) (grown cs xs (length xs) c h refl before at fit))

  pub fits_all : (cs : List ℕ) (xs : List (ℕ × H)) → HintsFit fits (take (length xs) cs) xs → length cs ≤ length xs → HintsFit fits cs xs
  fits_all [] [] h le = tt
  fits_all [] (x ∷ xs) h le = absurd h
  fits_all (c ∷ cs) [] h le = absurd (omega arith)
  fits_all (c ∷ cs) (x ∷ xs) h le = (h.0, h.1, fits_all cs xs h.2 (omega arith))

pub there : (xs : List ℕ) (k c : ℕ) → slice_get xs k ≡ Some c → (get_elem? xs k ≡ some c) × (k < length xs)
there [] k c e = absurd (let z : ⊥ = cc in z)
there (x ∷ xs) zero c e = let z : x ≡ c = cc in (ap some z, omega arith)
there (x ∷ xs) (suc k) c e = let r = there xs k c e in (r.0, omega (arith, r.1))

-- where a number that was picked stands, and that it meets the test
record Picked (test : Option ℕ → Bool) (ps : List (Option ℕ)) (n c : ℕ) : Type 0 where
  index : ℕ
  entry : Option ℕ
  number : c ≡ n + index
  found : get_elem? ps index ≡ some entry
  meets : test entry ≡ true

picked_step : (test : Option ℕ → Bool) (p : Option ℕ) (ps : List (Option ℕ)) (n k c : ℕ) (b : Bool) → test p ≡ b
    → ((j : ℕ) → slice_get (picked test (suc n) ps) j ≡ Some c → Picked test ps (suc n) c)
    → slice_get (put_if b n (picked test (suc n) ps)) k ≡ Some c → Picked test (p ∷ ps) n c
picked_step test p ps n k c false e later at = let r = later k at in record { index = suc r.index; entry = r.entry; number = omega (arith, r.number); found = r.found; meets = r.meets }
picked_step test p ps n zero c true e later at = let z : n ≡ c = cc in record { index = 0; entry = p; number = omega arith; found = refl; meets = e }
picked_step test p ps n (suc k) c true e later at = let r = later k at in record { index = suc r.index; entry = r.entry; number = omega (arith, r.number); found = r.found; meets = r.meets }

picked_there : (test : Option ℕ → Bool) (ps : List (Option ℕ)) (n k c : ℕ) → slice_get (picked test n ps) k ≡ Some c → Picked test ps n c
picked_there test [] n k c at = absurd (let z : ⊥ = cc in z)
picked_there test (p ∷ ps) n k c at = picked_step test p ps n k c (test p) refl (λ j e. picked_there test ps (suc n) j c e) at

-- a child's parent is the trace whose child it is
pub parent_of_child : (P : List (Option ℕ)) (t k c : ℕ) → slice_get (children P t) k ≡ Some c → get_elem? P c ≡ some (Some t)
unfolding children
parent_of_child P t k c at =
    let r = picked_there (is_child t) P 0 k c at in
    let same : c ≡ r.index = omega (arith, r.number) in
    ap (get_elem? P) same ∙ (r.found ∙ ap some (is_parent r.entry r.meets))
  where
    is_parent : (o : Option ℕ) → is_child t o ≡ true → o ≡ Some t
    is_parent None e = absurd (true≢false (sym e))
    is_parent (Some p) e = ap (λ (q : ℕ). Some q) (eqb-true p t e)

pub within : (P : List (Option ℕ)) (c : ℕ) (o : Option ℕ) → get_elem? P c ≡ some o → c < length P
within [] c o at = absurd (some-ne-none o (sym at))
within (x ∷ xs) zero o at = omega arith
within (x ∷ xs) (suc c) o at = omega (arith, within xs c o at)
