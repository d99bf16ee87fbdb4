-- The first items of lists.
use Rattle.std.proofs.Common.{◌≡◌, ℕ, zero, suc, ◌<◌, ◌≤◌, List, [], ◌∷◌, ◌++◌, map, length, take, drop, Some, refl, ap, arith}
use Rattle.std.specs.Prelude.{slice_get}
use Rattle.ob_types.proofs.Tests.{none_some, some_same}

pub drop_map : {A B : Type 0} (f : A → B) (n : ℕ) (xs : List A) → drop n (map f xs) ≡ map f (drop n xs)
drop_map f zero xs = refl
drop_map f (suc n) [] = refl
drop_map f (suc n) (x ∷ xs) = drop_map f n xs

pub length_first : {A : Type 0} (n : ℕ) (xs : List A) → n ≤ length xs → length (take n xs) ≡ n
length_first zero xs l = refl
length_first (suc n) [] l = absurd (omega (arith, l))
length_first (suc n) (x ∷ xs) l = ap suc (length_first n xs (omega (arith, l)))

pub all_first : {A : Type 0} (xs : List A) → take (length xs) xs ≡ xs
all_first [] = refl
all_first (x ∷ xs) = ap (λ ys. x ∷ ys) (all_first xs)

pub first_and_rest : {A : Type 0} (n : ℕ) (xs : List A) → take n xs ++ drop n xs ≡ xs
first_and_rest zero xs = refl
first_and_rest (suc n) [] = refl
first_and_rest (suc n) (x ∷ xs) = ap (λ ys. x ∷ ys) (first_and_rest n xs)

pub first_of_append : {A : Type 0} (xs ys : List A) → take (length xs) (xs ++ ys) ≡ xs
first_of_append [] ys = refl
first_of_append (x ∷ xs) ys = ap (λ zs. x ∷ zs) (first_of_append xs ys)

-- the item at a place, behind those before it
pub record IsAt {A : Type 0} (n : ℕ) (xs : List A) : Type 0 where
  pub item : A
  pub there : slice_get xs n ≡ Some item
  pub first : take (suc n) xs ≡ take n xs ++ item ∷ []

pub item_at : {A : Type 0} (n : ℕ) (xs : List A) → n < length xs → IsAt n xs
item_at n [] l = absurd (omega (arith, l))
item_at zero (x ∷ xs) l = record { item = x; there = refl; first = refl }
item_at (suc n) (x ∷ xs) l =
    let more = item_at n xs (omega (arith, l)) in
    record { item = more.item; there = more.there; first = ap (λ ys. x ∷ ys) more.first }

-- an item of which another is made
pub mapped_at : {A B : Type 0} (f : A → B) (xs : List A) (n : ℕ) (b : B) → slice_get (map f xs) n ≡ Some b → (a : A) × (slice_get xs n ≡ Some a) × (f a ≡ b)
mapped_at f [] n b at = none_some b at
mapped_at f (x ∷ xs) zero b at = (x, refl, some_same (f x) b at)
mapped_at f (x ∷ xs) (suc n) b at = mapped_at f xs n b at
