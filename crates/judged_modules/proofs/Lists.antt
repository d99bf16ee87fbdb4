-- Lists read at a place, once something was appended or set.
use Rattle.std.proofs.Common.{◌≡◌, ℕ, zero, suc, ◌+◌, ◌<◌, List, [], ◌∷◌, ◌++◌, length, Some, refl, ap, ◌∙◌, arith}
use Rattle.std.specs.Prelude.{slice_get, slice_set}
use Rattle.ob_types.proofs.Tests.{none_some}

pub get_append : {A : Type 0} (xs ys : List A) (n : ℕ) → n < length xs → slice_get (xs ++ ys) n ≡ slice_get xs n
get_append [] ys n l = absurd (omega (arith, l))
get_append (x ∷ xs) ys zero l = refl
get_append (x ∷ xs) ys (suc n) l = get_append xs ys n (omega (arith, l))

pub get_behind : {A : Type 0} (xs ys : List A) (n : ℕ) → slice_get (xs ++ ys) (length xs + n) ≡ slice_get ys n
get_behind [] ys n = let e : 0 + n ≡ n = omega arith in ap (slice_get ys) e
get_behind (x ∷ xs) ys n = let e : suc (length xs) + n ≡ suc (length xs + n) = omega arith in ap (slice_get (x ∷ xs ++ ys)) e ∙ get_behind xs ys n

pub get_last : {A : Type 0} (xs : List A) (y : A) → slice_get (xs ++ y ∷ []) (length xs) ≡ Some y
get_last [] y = refl
get_last (x ∷ xs) y = get_last xs y

pub get_within : {A : Type 0} (xs : List A) (n : ℕ) (y : A) → slice_get xs n ≡ Some y → n < length xs
get_within [] n y h = none_some y h
get_within (x ∷ xs) zero y h = omega arith
get_within (x ∷ xs) (suc n) y h = let l = get_within xs n y h in omega (arith, l)

pub set_other : {A : Type 0} (xs : List A) (n m : ℕ) (y : A) → (m ≡ n → ⊥) → slice_get (slice_set xs n y) m ≡ slice_get xs m
set_other [] n m y d = refl
set_other (x ∷ xs) zero zero y d = absurd (d refl)
set_other (x ∷ xs) zero (suc m) y d = refl
set_other (x ∷ xs) (suc n) zero y d = refl
set_other (x ∷ xs) (suc n) (suc m) y d = set_other xs n m y (λ e. d (ap suc e))

pub set_here : {A : Type 0} (xs : List A) (n : ℕ) (y : A) → n < length xs → slice_get (slice_set xs n y) n ≡ Some y
set_here [] n y l = absurd (omega (arith, l))
set_here (x ∷ xs) zero y l = refl
set_here (x ∷ xs) (suc n) y l = set_here xs n y (omega (arith, l))

pub set_length : {A : Type 0} (xs : List A) (n : ℕ) (y : A) → length (slice_set xs n y) ≡ length xs
set_length [] n y = refl
set_length (x ∷ xs) zero y = refl
set_length (x ∷ xs) (suc n) y = ap suc (set_length xs n y)

pub append_length : {A : Type 0} (xs ys : List A) → length (xs ++ ys) ≡ length xs + length ys
append_length [] ys = omega arith
append_length (x ∷ xs) ys = let h = ap suc (append_length xs ys) in let e : suc (length xs + length ys) ≡ suc (length xs) + length ys = omega arith in h ∙ e
