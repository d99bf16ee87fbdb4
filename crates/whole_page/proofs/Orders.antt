-- The order of procedures.
use Rattle.std.proofs.Common.{◌≡◌, ◌≤◌, ℕ, suc, Bool, true, false, List, [], ◌∷◌, ◌++◌, refl, sym, ap, subst, arith}
use Rattle.std.specs.Prelude.{IsPermutation, nat_lt, if◌then◌else◌}
use Rattle.std.specs.List.{insert}
use Rattle.std.proofs.lemmas.Bool.Decides.{nat_tests}
use Rattle.std.proofs.lemmas.List.{append-nil}
use Rattle.std.proofs.lemmas.List.Sorted.{IsPermutation-refl, IsPermutation-trans, IsPermutation-middle, IsPermutation-append_left, IsPermutation-insert}
use Rattle.page_parts.specs.declared.order.Rank.{Rank}
use Rattle.page_parts.specs.Order.{inserted, ordered_among, place_among}
use Rattle.whole_page.specs.Orders.{Falls}

pub each_among : (done ranks : List Rank) → IsPermutation (done ++ ranks) (ordered_among done ranks)
each_among done [] = subst (λ xs. IsPermutation xs done) (sym (append-nil done)) (IsPermutation-refl done)
each_among done (r ∷ rs) =
    IsPermutation-trans _ _ _ (IsPermutation-middle done r rs)
    (IsPermutation-trans _ _ _ (IsPermutation-append_left rs (r ∷ done) (inserted r done) (IsPermutation-insert done (place_among r.weight done) r)) (each_among (inserted r done) rs))

less : (a b : ℕ) → nat_lt a b ≡ true → a ≤ b
less a b e = grind (arith, nat_tests, e)

more : (a b : ℕ) → nat_lt a b ≡ false → b ≤ a
more a b e = grind (arith, nat_tests, e)

-- one more before the first that weighs less
abbrev put : Rank → List Rank → List Rank
put r [] = r ∷ []
put r (x ∷ xs) = if nat_lt x.weight r.weight then r ∷ (x ∷ xs) else x ∷ put r xs

put_here : (r x : Rank) (xs : List Rank) → inserted r xs ≡ put r xs → (b : Bool) → insert (x ∷ xs) (if b then 0 else suc (place_among r.weight xs)) r ≡ (if b then r ∷ (x ∷ xs) else x ∷ put r xs)
put_here r x xs same true = refl
put_here r x xs same false = ap (λ ys. x ∷ ys) same

inserted_is : (r : Rank) (xs : List Rank) → inserted r xs ≡ put r xs
inserted_is r [] = refl
inserted_is r (x ∷ xs) = put_here r x xs (inserted_is r xs) (nat_lt x.weight r.weight)

falls_here : (x r y : Rank) (ys : List Rank) → r.weight ≤ x.weight → Falls (x ∷ (y ∷ ys)) → (r.weight ≤ y.weight → Falls (y ∷ put r ys)) → (b : Bool) → nat_lt y.weight r.weight ≡ b
    → Falls (x ∷ (if b then r ∷ (y ∷ ys) else y ∷ put r ys))
falls_here x r y ys l h next true e = (l, (less y.weight r.weight e, h.1))
falls_here x r y ys l h next false e = (h.0, next (more y.weight r.weight e))

falls_behind : (x r : Rank) (xs : List Rank) → r.weight ≤ x.weight → Falls (x ∷ xs) → Falls (x ∷ put r xs)
falls_behind x r [] l h = (l, tt)
falls_behind x r (y ∷ ys) l h = falls_here x r y ys l h (λ m. falls_behind y r ys m h.1) (nat_lt y.weight r.weight) refl

falls_first : (r x : Rank) (xs : List Rank) → Falls (x ∷ xs) → (b : Bool) → nat_lt x.weight r.weight ≡ b → Falls (if b then r ∷ (x ∷ xs) else x ∷ put r xs)
falls_first r x xs h true e = (less x.weight r.weight e, h)
falls_first r x xs h false e = falls_behind x r xs (more x.weight r.weight e) h

falls_put : (r : Rank) (xs : List Rank) → Falls xs → Falls (put r xs)
falls_put r [] h = tt
falls_put r (x ∷ xs) h = falls_first r x xs h (nat_lt x.weight r.weight) refl

pub falls_among : (done ranks : List Rank) → Falls done → Falls (ordered_among done ranks)
falls_among done [] h = h
falls_among done (r ∷ rs) h = falls_among (inserted r done) rs (subst Falls (sym (inserted_is r done)) (falls_put r done h))
