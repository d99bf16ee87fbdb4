-- Lists to which something was added, and in which something was set behind their first part.
use Rattle.std.proofs.Common.{◌≡◌, ℕ, zero, suc, ◌+◌, ◌<◌, List, [], ◌∷◌, ◌++◌, length, refl, ap, ◌∙◌, arith}
use Rattle.std.specs.Prelude.{slice_set}

pub append_append : {A : Type 0} (xs ys zs : List A) → (xs ++ ys) ++ zs ≡ xs ++ (ys ++ zs)
append_append [] ys zs = refl
append_append (x ∷ xs) ys zs = ap (λ l. x ∷ l) (append_append xs ys zs)

pub append_nothing : {A : Type 0} (xs : List A) → xs ++ [] ≡ xs
append_nothing [] = refl
append_nothing (x ∷ xs) = ap (λ l. x ∷ l) (append_nothing xs)

pub set_behind : {A : Type 0} (xs ys : List A) (k : ℕ) (y : A) → slice_set (xs ++ ys) (length xs + k) y ≡ xs ++ slice_set ys k y
set_behind [] ys k y = let e : 0 + k ≡ k = omega arith in ap (λ n. slice_set ys n y) e
set_behind (x ∷ xs) ys k y = let e : suc (length xs) + k ≡ suc (length xs + k) = omega arith in ap (λ n. slice_set (x ∷ xs ++ ys) n y) e ∙ ap (λ l. x ∷ l) (set_behind xs ys k y)

pub set_before : {A : Type 0} (xs ys : List A) (n : ℕ) (y : A) → n < length xs → slice_set (xs ++ ys) n y ≡ slice_set xs n y ++ ys
set_before [] ys n y l = absurd (omega (arith, l))
set_before (x ∷ xs) ys zero y l = refl
set_before (x ∷ xs) ys (suc n) y l = ap (λ z. x ∷ z) (set_before xs ys n y (omega (arith, l)))
