-- The next value of a row.
use Rattle.std.proofs.Common.{◌≡◌, ℕ, zero, suc, ◌+◌, ◌-◌, ◌<◌, ◌≤◌, Bool, false, cond, [], ◌∷◌, sym, ap, ◌∙◌, arith, add-one}
use Rattle.std.specs.Prelude.{filter}
use Rattle.run_laws.specs.Layers.{places_from}
use Rattle.lir_core.specs.Rows.{NonePasses, IsLowest}

-- numbers that don't pass are passed over
passed_over : (p : ℕ → Bool) (d from n : ℕ) → NonePasses p from (from + d) → filter p (places_from from (d + n)) ≡ filter p (places_from (from + d) n)
passed_over p zero from n h = let e : from ≡ from + 0 = omega arith in let f : 0 + n ≡ n = omega arith in ap (λ k. filter p (places_from from k)) f ∙ ap (λ k. filter p (places_from k n)) e
passed_over p (suc d) from n h =
    let e : suc d + n ≡ suc (d + n) = omega arith in
    let f : suc from + d ≡ from + suc d = omega arith in
    let g : p from ≡ false = h from (omega arith) (omega arith) in
    ap (λ k. filter p (places_from from k)) e
    ∙ ap (λ b. cond b (from ∷ filter p (places_from (suc from) (d + n))) (filter p (places_from (suc from) (d + n)))) g
    ∙ passed_over p d (suc from) n (λ v l m. h v (omega (arith, l)) (omega (arith, m)))
    ∙ ap (λ k. filter p (places_from k n)) f

pub none_from : (p : ℕ → Bool) (from to : ℕ) → NonePasses p from to → filter p (places_from from (to - from)) ≡ []
none_from p from to h =
    let e : to - from ≡ (to - from) + 0 = omega arith in
    ap (λ k. filter p (places_from from k)) e ∙ passed_over p (to - from) from 0 (λ v l m. h v l (omega (arith, m)))

pub one_from : (p : ℕ → Bool) (from v to : ℕ) → IsLowest p from v → v < to → filter p (places_from from (to - from)) ≡ v ∷ filter p (places_from (v + 1) (to - (v + 1)))
one_from p from v to low lt =
    let l = low.at_least in
    let e : to - from ≡ (v - from) + suc (to - (v + 1)) = omega (arith, l, lt) in
    let f : from + (v - from) ≡ v = omega (arith, l) in
    ap (λ k. filter p (places_from from k)) e
    ∙ passed_over p (v - from) from (suc (to - (v + 1))) (λ u m n. low.none_before u m (omega (arith, l, n)))
    ∙ ap (λ k. filter p (places_from k (suc (to - (v + 1))))) f
    ∙ ap (λ b. cond b (v ∷ filter p (places_from (suc v) (to - (v + 1)))) (filter p (places_from (suc v) (to - (v + 1))))) low.passes
    ∙ ap (λ k. v ∷ filter p (places_from k (to - (v + 1)))) (sym (add-one v))

-- a limit up to which none passes ends the search
pub none_below : (p : ℕ → Bool) (from v to : ℕ) → IsLowest p from v → to ≤ v → filter p (places_from from (to - from)) ≡ []
none_below p from v to low le = none_from p from to (λ u l m. low.none_before u l (omega (arith, le, m)))
