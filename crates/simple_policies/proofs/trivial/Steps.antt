-- A value more of a list that is filtered.
use Rattle.std.proofs.Common.{◌≡◌, ℕ, zero, suc, ◌+◌, ◌<◌, Bool, true, false, cond, List, [], ◌∷◌, ◌++◌, filter, length, drop, get_or, refl, ap, ◌∙◌, arith, append_assoc}
use Rattle.trace_needs.specs.Tables.{one_if}

one_more : (p : ℕ → Bool) (x : ℕ) (xs values : List ℕ) → (values ++ one_if (p x) x) ++ filter p xs ≡ values ++ filter p (x ∷ xs)
one_more p x xs values = append_assoc values (one_if (p x) x) (filter p xs) ∙ ap (λ t. values ++ t) (by (p x))
  where
    by : (b : Bool) → one_if b x ++ filter p xs ≡ cond b (x ∷ filter p xs) (filter p xs)
    by true = refl
    by false = refl

pub list_step : (p : ℕ → Bool) (xs : List ℕ) (i : ℕ) (values : List ℕ) → i < length xs → (values ++ one_if (p (get_or xs i 0)) (get_or xs i 0)) ++ filter p (drop (i + 1) xs) ≡ values ++ filter p (drop i xs)
list_step p [] i values lt = absurd (omega (arith, lt))
list_step p (x ∷ xs) zero values lt = one_more p x xs values
list_step p (x ∷ xs) (suc i) values lt =
    let e : suc i + 1 ≡ suc (i + 1) = omega arith in
    ap (λ k. (values ++ one_if (p (get_or xs i 0)) (get_or xs i 0)) ++ filter p (drop k (x ∷ xs))) e ∙ list_step p xs i values (omega (arith, lt))
