-- Lists over places, and the greatest of a list.
use Rattle.std.proofs.Common.{◌≡◌, ℕ, suc, zero, ◌+◌, ◌<◌, ◌≤◌, max, List, [], ◌∷◌, ◌++◌, map, length, get_or, refl, sym, ap, ◌∙◌, arith}
use Rattle.std.proofs.lemmas.List.{map-append}
use Rattle.run_laws.specs.Layers.{places_from}
use Rattle.run_laws.proofs.Layers.{places_from-append}
use Rattle.flow_drawing.specs.Layout.{greatest}

---- Lists over places

-- one place more
pub places_more : {X : Type 0} (f : ℕ → X) (n : ℕ) → map f (places_from 0 (n + 1)) ≡ map f (places_from 0 n) ++ f n ∷ []
places_more f n =
    let e : 0 + n ≡ n = omega arith in
    ap (map f) (sym (places_from-append 0 n 1)) ∙ map-append f (places_from 0 n) (places_from (0 + n) 1) ∙ ap (λ k. map f (places_from 0 n) ++ f k ∷ []) e

-- what has at each place what a function gives there
pub tabulated : {X : Type 0} (f : ℕ → X) (a : ℕ) (xs : List X) (d : X) → ((k : ℕ) → k < length xs → get_or xs k d ≡ f (a + k)) → xs ≡ map f (places_from a (length xs))
tabulated f a [] d h = refl
tabulated f a (x ∷ xs) d h =
    let now : a + 0 ≡ a = omega arith in
    let first : x ≡ f a = h 0 (omega arith) ∙ ap f now in
    let rest : xs ≡ map f (places_from (suc a) (length xs)) = tabulated f (suc a) xs d (λ k l. let e : a + suc k ≡ suc a + k = omega arith in h (suc k) (omega (arith, l)) ∙ ap f e) in
    ap (λ y. y ∷ xs) first ∙ ap (λ ys. f a ∷ ys) rest

pub at_place : {X : Type 0} (f : ℕ → X) (a n k : ℕ) (d : X) → k < n → get_or (map f (places_from a n)) k d ≡ f (a + k)
at_place f a zero k d l = absurd (omega (arith, l))
at_place f a (suc n) zero d l = let e : a ≡ a + 0 = omega arith in ap f e
at_place f a (suc n) (suc k) d l = let e : suc a + k ≡ a + suc k = omega arith in at_place f (suc a) n k d (omega (arith, l)) ∙ ap f e

pub length_places : {X : Type 0} (f : ℕ → X) (a n : ℕ) → length (map f (places_from a n)) ≡ n
length_places f a zero = refl
length_places f a (suc n) = ap (λ k. suc k) (length_places f (suc a) n)

---- The greatest

pub at_least : (xs : List ℕ) (m : ℕ) → m ≤ greatest m xs
at_least [] m = omega arith
at_least (x ∷ xs) m = let more = at_least xs (max x m) in omega (arith, more)

pub each_at_most : (xs : List ℕ) (m k : ℕ) → k < length xs → get_or xs k 0 ≤ greatest m xs
each_at_most [] m k l = absurd (omega (arith, l))
each_at_most (x ∷ xs) m zero l = let more = at_least xs (max x m) in omega (arith, more)
each_at_most (x ∷ xs) m (suc k) l = each_at_most xs (max x m) k (omega (arith, l))

pub greatest_max : (xs : List ℕ) (a m : ℕ) → greatest (max a m) xs ≡ max a (greatest m xs)
greatest_max [] a m = refl
greatest_max (x ∷ xs) a m = let e : max x (max a m) ≡ max a (max x m) = omega arith in ap (λ k. greatest k xs) e ∙ greatest_max xs a (max x m)
