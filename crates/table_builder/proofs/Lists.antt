-- Lists read at a place, once something was appended or set.
use Rattle.std.proofs.Common.{◌≡◌, ℕ, zero, suc, ◌<◌, ◌≤◌, List, [], ◌∷◌, ◌++◌, length, take, ◌-◌, map, Some, None, option_map, refl, sym, ap, ◌∙◌, arith, ◌⊎◌, inl, inr}
use Rattle.std.specs.Prelude.{slice_get, slice_set, slice_index_or}
use Rattle.std.proofs.lemmas.List.{length-append}
use Rattle.std.proofs.Math.Seq.{take-append_seam}
use Rattle.ob_types.proofs.Tests.{none_some, some_same}

pub get_left : {A : Type 0} (xs ys : List A) (n : ℕ) (x : A) → slice_get xs n ≡ Some x → slice_get (xs ++ ys) n ≡ Some x
get_left [] ys n x h = none_some x h
get_left (y ∷ xs) ys zero x h = h
get_left (y ∷ xs) ys (suc n) x h = get_left xs ys n x h

pub get_last : {A : Type 0} (xs : List A) (y : A) → slice_get (xs ++ y ∷ []) (length xs) ≡ Some y
get_last [] y = refl
get_last (x ∷ xs) y = get_last xs y

-- what is there was there, or is the last
pub get_from : {A : Type 0} (xs : List A) (y : A) (n : ℕ) (x : A) → slice_get (xs ++ y ∷ []) n ≡ Some x → (slice_get xs n ≡ Some x) ⊎ ((n ≡ length xs) × (y ≡ x))
get_from [] y zero x h = inr (refl, some_same y x h)
get_from [] y (suc n) x h = none_some x h
get_from (z ∷ xs) y zero x h = inl h
get_from (z ∷ xs) y (suc n) x h = further (get_from xs y n x h)
  where
    further : (slice_get xs n ≡ Some x) ⊎ ((n ≡ length xs) × (y ≡ x)) → (slice_get xs n ≡ Some x) ⊎ ((suc n ≡ suc (length xs)) × (y ≡ x))
    further (inl e) = inl e
    further (inr e) = inr (ap suc e.0, e.1)

pub there : {A : Type 0} (xs : List A) (n : ℕ) → n < length xs → (x : A) × (slice_get xs n ≡ Some x)
there [] n l = absurd (omega (arith, l))
there (x ∷ xs) zero l = (x, refl)
there (x ∷ xs) (suc n) l = there xs n (omega (arith, l))

pub index_there : {A : Type 0} (xs : List A) (n : ℕ) (x d : A) → slice_get xs n ≡ Some x → slice_index_or xs n d ≡ x
index_there [] n x d h = none_some x h
index_there (y ∷ xs) zero x d h = some_same y x h
index_there (y ∷ xs) (suc n) x d h = index_there xs n x d h

pub read_there : {A : Type 0} (xs : List A) (n : ℕ) (x : A) → n < length xs → x ≡ slice_index_or xs n x → slice_get xs n ≡ Some x
read_there xs n x l is = let y = there xs n l in y.1 ∙ ap (λ z. Some z) (sym (is ∙ index_there xs n y.0 x y.1))

pub map_there : {A B : Type 0} (f : A → B) (xs : List A) (n : ℕ) (x : A) → slice_get xs n ≡ Some x → slice_get (map f xs) n ≡ Some (f x)
map_there f [] n x h = none_some (f x) (let z : None ≡ Some x = h in absurd (none_some x z))
map_there f (y ∷ xs) zero x h = ap (option_map f) h
map_there f (y ∷ xs) (suc n) x h = map_there f xs n x h

-- one more of a list
pub one_more : {A : Type 0} (xs : List A) (x : A) (r : ℕ) → (r ≡ length xs) ⊎ (slice_get (xs ++ x ∷ []) r ≡ slice_get xs r)
one_more [] x zero = inl refl
one_more [] x (suc r) = inr refl
one_more (y ∷ xs) x zero = inr refl
one_more (y ∷ xs) x (suc r) = further (one_more xs x r)
  where
    further : (r ≡ length xs) ⊎ (slice_get (xs ++ x ∷ []) r ≡ slice_get xs r) → (suc r ≡ suc (length xs)) ⊎ (slice_get (xs ++ x ∷ []) r ≡ slice_get xs r)
    further (inl e) = inl (ap suc e)
    further (inr e) = inr e

pub set_other : {A : Type 0} (xs : List A) (n m : ℕ) (y : A) → (m ≡ n → ⊥) → slice_get (slice_set xs n y) m ≡ slice_get xs m
set_other [] n m y d = refl
set_other (x ∷ xs) zero zero y d = absurd (d refl)
set_other (x ∷ xs) zero (suc m) y d = refl
set_other (x ∷ xs) (suc n) zero y d = refl
set_other (x ∷ xs) (suc n) (suc m) y d = set_other xs n m y (λ e. d (ap suc e))

pub set_here : {A : Type 0} (xs : List A) (n : ℕ) (y : A) → n < length xs → slice_get (slice_set xs n y) n ≡ Some y
set_here [] n y l = absurd (omega (arith, l))
set_here (x ∷ xs) zero y l = refl
set_here (x ∷ xs) (suc n) y l = set_here xs n y (omega (arith, l))

-- the last was taken off again
pub take_last : {A : Type 0} (xs : List A) (y : A) → take (length (xs ++ y ∷ []) - 1) (xs ++ y ∷ []) ≡ xs
take_last xs y = ap (λ n. take n (xs ++ y ∷ [])) (let l = length-append xs (y ∷ []) in omega (arith, l)) ∙ take-append_seam xs (y ∷ [])

-- the first ones, and one more behind them
pub take_long : {A : Type 0} (xs : List A) (n : ℕ) → n ≤ length xs → length (take n xs) ≡ n
take_long xs zero l = refl
take_long [] (suc n) l = absurd (omega (arith, l))
take_long (x ∷ xs) (suc n) l = ap suc (take_long xs n (omega (arith, l)))

pub take_kept : {A : Type 0} (xs ys : List A) (n k : ℕ) → n ≤ length xs → k < n → slice_get (take n xs ++ ys) k ≡ slice_get xs k
take_kept xs ys zero k l m = absurd (omega (arith, m))
take_kept [] ys (suc n) k l m = absurd (omega (arith, l))
take_kept (x ∷ xs) ys (suc n) zero l m = refl
take_kept (x ∷ xs) ys (suc n) (suc k) l m = take_kept xs ys n k (omega (arith, l)) (omega (arith, m))

pub taken : {A : Type 0} (xs : List A) (n k : ℕ) → k < n → slice_get (take n xs) k ≡ slice_get xs k
taken xs zero k m = absurd (omega (arith, m))
taken [] (suc n) k m = refl
taken (x ∷ xs) (suc n) zero m = refl
taken (x ∷ xs) (suc n) (suc k) m = taken xs n k (omega (arith, m))

pub take_next : {A : Type 0} (xs : List A) (n : ℕ) (x : A) → n ≤ length xs → slice_get (take n xs ++ x ∷ []) n ≡ Some x
take_next xs n x l = ap (slice_get (take n xs ++ x ∷ [])) (sym (take_long xs n l)) ∙ get_last (take n xs) x
