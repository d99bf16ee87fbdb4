-- How long a page is that isn't whole yet.
use Rattle.std.proofs.Common.{◌≡◌, ℕ, ◌+◌, ◌<◌, List, ◌++◌, length, drop, get_or, sym, ap, ◌∙◌, append_assoc, length-append, arith}
use Rattle.std.specs.List.{flat_map}
use Rattle.std.proofs.lemmas.List.{drop_more}

-- behind the parts of some elements a text is no longer than behind those of all
pub long_so_far : {X : Type 0} (f : X → List ℕ) (xs : List X) (i : ℕ) (d : X) (before text after : List ℕ) → i < length xs → text ++ flat_map f (drop i xs) ≡ before ++ flat_map f xs
    → after ≡ text ++ f (get_or xs i d) → (n : ℕ) → n < length after → n < length before + length (flat_map f xs)
long_so_far f xs i d before text after l inv is n long =
    let drops = drop_more xs i d l in
    let all = ap (λ t. length t) (append_assoc text (f (get_or xs i d)) (flat_map f (drop (i + 1) xs)) ∙ ap (λ ys. text ++ flat_map f ys) (sym drops) ∙ inv) in
    let a = length-append (text ++ f (get_or xs i d)) (flat_map f (drop (i + 1) xs)) in
    let b = length-append before (flat_map f xs) in
    let c = ap (λ t. length t) is in
    omega (arith, all, a, b, c, long)

-- with a front and middle parts alone, too
pub long_front : (front middle end : List ℕ) (n : ℕ) → n < length front + length middle → n < length (front ++ (middle ++ end))
long_front front middle end n long =
    let a = length-append front (middle ++ end) in
    let b = length-append middle end in
    omega (arith, a, b, long)

-- a front, what stands behind it, and the end
pub whole_text : (front middle end first behind all : List ℕ) → first ≡ front → behind ≡ first ++ middle → all ≡ behind ++ end → all ≡ front ++ (middle ++ end)
whole_text front middle end first behind all e f g = g ∙ ap (λ t. t ++ end) (f ∙ ap (λ t. t ++ middle) e) ∙ append_assoc front middle end
