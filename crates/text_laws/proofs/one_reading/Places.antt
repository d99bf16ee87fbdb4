-- Where a list of symbols stops being a module: at one place, for one reason.
use Rattle.std.proofs.Common.{◌≡◌, ℕ, zero, suc, ◌<◌, ◌≤◌, ◌⊎◌, inl, inr, List, [], ◌∷◌, length, take, refl, sym, ap, ◌∙◌, arith}
use Rattle.std.proofs.lemmas.Bool.{cases_order}
use Rattle.std.proofs.lemmas.List.{length-take-le}
use Rattle.ob_grammar.specs.Trees.{Token, terminals}
use Rattle.ob_grammar.specs.Modules.{IsModule, BeginsModule, Shallow, OpensTooMany, IsWrong}

take_take : (i j : ℕ) (xs : List ℕ) → i ≤ j → take i (take j xs) ≡ take i xs
take_take zero j xs h = refl
take_take (suc i) zero xs h = absurd (omega (arith, h))
take_take (suc i) (suc j) [] h = refl
take_take (suc i) (suc j) (x ∷ xs) h = ap (λ z. x ∷ z) (take_take i j xs (omega (arith, h)))

-- a module that begins with so many symbols begins with fewer of them too
begins_so : (w : List ℕ) (k j : ℕ) (b : BeginsModule (take k w)) → k ≤ length w → j ≤ k → take j (terminals b.tokens) ≡ take j w
begins_so w k j b h g =
    let e : take k (terminals b.tokens) ≡ take k w = ap (λ i. take i (terminals b.tokens)) (sym (length-take-le k w h)) ∙ b.begins in
    sym (take_take j k (terminals b.tokens) g) ∙ (ap (take j) e ∙ take_take j k w g)

one_of : {k j : ℕ} → (k < j → ⊥) → (j < k → ⊥) → k ≡ j
one_of {k} {j} f g = by (cases_order k j)
  where
    by : (k ≡ j) ⊎ ((k < j) ⊎ (j < k)) → k ≡ j
    by (inl e) = e
    by (inr (inl h)) = absurd (f h)
    by (inr (inr h)) = absurd (g h)

no_longer : (w : List ℕ) (k j : ℕ) → IsWrong w k → IsWrong w j → k < j → ⊥
no_longer w k j a b h = a.viable.longest j h b.viable.within b.viable.begins

pub one_wrong : (w : List ℕ) (k j : ℕ) → IsWrong w k → IsWrong w j → k ≡ j
one_wrong w k j a b = one_of (no_longer w k j a b) (no_longer w j k b a)

-- a module that begins up to a symbol which opens too many keeps the limit before it
no_later : (w : List ℕ) (k j : ℕ) → OpensTooMany w k → OpensTooMany w j → k < j → ⊥
no_later w k j a b h =
    let v = b.begins in
    let open_there = (a.level v.tokens v.tree (begins_so w (suc j) (suc k) v (omega (arith, b.within)) (omega (arith, h)))).0 in
    let kept = (b.level v.tokens v.tree (begins_so w (suc j) (suc j) v (omega (arith, b.within)) (omega arith))).1 k h in
    omega (arith, open_there, kept)

pub one_too_many : (w : List ℕ) (k j : ℕ) → OpensTooMany w k → OpensTooMany w j → k ≡ j
one_too_many w k j a b = one_of (no_later w k j a b) (no_later w j k b a)

-- before the place where they are wrong the limit is kept, and no module begins with more
pub never_both : (w : List ℕ) (k j : ℕ) → IsWrong w k → OpensTooMany w j → ⊥
never_both w k j a b = by (cases_order k j)
  where
    not_behind : k ≤ j → ⊥
    not_behind h = a.viable.longest (suc j) (omega (arith, h)) (omega (arith, b.within)) b.begins

    not_before : j < k → ⊥
    not_before h =
        let v = a.viable.begins in
        let open_there = (b.level v.tokens v.tree (begins_so w k (suc j) v a.viable.within (omega (arith, h)))).0 in
        let kept = a.shallow v.tokens v.tree (begins_so w k k v a.viable.within (omega arith)) j h in
        omega (arith, open_there, kept)

    by : (k ≡ j) ⊎ ((k < j) ⊎ (j < k)) → ⊥
    by (inl e) = not_behind (omega (arith, e))
    by (inr (inl h)) = not_behind (omega (arith, h))
    by (inr (inr h)) = not_before h

-- the symbols of a module within the limit open too many nowhere
pub not_too_many : (w : List ℕ) (k : ℕ) (v : List Token) → IsModule v → terminals v ≡ w → Shallow v (length w) → OpensTooMany w k → ⊥
not_too_many w k v m e s h =
    let open_there = (h.level v m (ap (take (suc k)) e)).0 in
    let kept = s k h.within in
    omega (arith, open_there, kept)
