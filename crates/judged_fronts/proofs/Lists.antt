-- Lists that begin with others.
use Rattle.std.proofs.Common.{◌≡◌, ℕ, zero, suc, ◌<◌, ◌≤◌, List, [], ◌∷◌, ◌++◌, length, map, refl, sym, ap, ap₂, ◌∙◌, arith, append_assoc}
use Rattle.std.specs.Prelude.{slice_get}
use Rattle.std.proofs.lemmas.List.{append-nil}
use Rattle.ob_types.proofs.Tests.{some_same}
use Rattle.judged_fronts.specs.Fronts.{IsFront}

pub front_self : {A : Type 0} (xs : List A) → IsFront xs xs
front_self xs = record { rest = []; is = sym (append-nil xs) }

pub front_on : {A : Type 0} (xs ys zs : List A) → IsFront xs ys → IsFront ys zs → IsFront xs zs
front_on xs ys zs f g = record { rest = f.rest ++ g.rest; is = g.is ∙ ap (λ l. l ++ g.rest) f.is ∙ append_assoc xs f.rest g.rest }

map_append : {A B : Type 0} (f : A → B) (xs ys : List A) → map f (xs ++ ys) ≡ map f xs ++ map f ys
map_append f [] ys = refl
map_append f (x ∷ xs) ys = ap (λ zs. f x ∷ zs) (map_append f xs ys)

pub front_map : {A B : Type 0} (f : A → B) (xs ys : List A) → IsFront xs ys → IsFront (map f xs) (map f ys)
front_map f xs ys h = record { rest = map f h.rest; is = ap (map f) h.is ∙ map_append f xs h.rest }

-- a list that has what another has at each of its places
pub front_of : {A : Type 0} (xs ys : List A) → length xs ≤ length ys → ((n : ℕ) → n < length xs → slice_get ys n ≡ slice_get xs n) → IsFront xs ys
front_of [] ys le h = record { rest = ys; is = refl }
front_of (x ∷ xs) [] le h = absurd (omega (arith, le))
front_of (x ∷ xs) (y ∷ ys) le h =
    let more = front_of xs ys (omega (arith, le)) (λ n l. h (suc n) (omega (arith, l))) in
    let first : y ≡ x = some_same y x (h zero (omega arith)) in
    record { rest = more.rest; is = ap₂ (λ a b. a ∷ b) first more.is }
