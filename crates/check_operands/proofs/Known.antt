-- Strings that are there.
use Rattle.std.proofs.Common.{◌≡◌, ℕ, zero, suc, ◌+◌, ◌<◌, ◌≤◌, List, [], ◌∷◌, ◌++◌, length, get_or, Some, slice_get, refl, ap, ◌∙◌, length-append, arith}
use Rattle.std.proofs.lemmas.List.{get_or_past}

pub get_some : (xs : List (List ℕ)) (n : ℕ) → n < length xs → slice_get xs n ≡ Some (get_or xs n [])
get_some [] n lt = absurd (omega arith)
get_some (x ∷ xs) zero lt = refl
get_some (x ∷ xs) (suc n) lt = get_some xs n (omega arith)

middle : (a b : List (List ℕ)) → slice_get (a ++ [] ∷ b) (length a) ≡ Some []
middle [] b = refl
middle (x ∷ a) b = middle a b

pub past : (a b : List (List ℕ)) (n : ℕ) → length a + length b < n → slice_get (a ++ [] ∷ b) (length a) ≡ Some (get_or (a ++ [] ∷ b) n [])
past a b n far =
    let out : get_or (a ++ [] ∷ b) n [] ≡ [] = get_or_past (a ++ [] ∷ b) n [] (omega (arith, length-append a ([] ∷ b))) in
    rw out (middle a b)
