-- What is live of a list.
use Rattle.std.proofs.Common.{◌≡◌, ℕ, zero, suc, ◌+◌, ◌<◌, Bool, true, false, cond, List, [], ◌∷◌, filter, length, drop, get_or, refl, sym, ap, ◌∙◌, arith}
use Rattle.loc_state.specs.Homed.{inserted, all_inserted}

pub insert_step : (p : ℕ → Bool) (x : ℕ) (xs homes : List ℕ) → all_inserted (filter p (x ∷ xs)) homes ≡ all_inserted (filter p xs) (cond (p x) (inserted x homes) homes)
insert_step p x xs homes = at_test (p x)
  where
    at_test : (b : Bool) → all_inserted (cond b (x ∷ filter p xs) (filter p xs)) homes ≡ all_inserted (filter p xs) (cond b (inserted x homes) homes)
    at_test true = refl
    at_test false = refl

-- an element more of a list
pub list_step : (p : ℕ → Bool) (xs : List ℕ) (i : ℕ) (homes : List ℕ) → i < length xs → all_inserted (filter p (drop i xs)) homes ≡ all_inserted (filter p (drop (i + 1) xs)) (cond (p (get_or xs i 0)) (inserted (get_or xs i 0) homes) homes)
list_step p [] i homes lt = absurd (omega (arith, lt))
list_step p (x ∷ xs) zero homes lt = insert_step p x xs homes
list_step p (x ∷ xs) (suc i) homes lt =
    let e : suc i + 1 ≡ suc (i + 1) = omega arith in
    list_step p xs i homes (omega (arith, lt)) ∙ ap (λ k. all_inserted (filter p (drop k (x ∷ xs))) (cond (p (get_or xs i 0)) (inserted (get_or xs i 0) homes) homes)) (sym e)
