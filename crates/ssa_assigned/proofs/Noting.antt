-- Which variables are noted, part by part.
use Rattle.std.proofs.Common.{◌≡◌, ℕ, ◌+◌, ◌<◌, ◌≤◌, List, [], ◌∷◌, ◌++◌, drop, length, get_or, Bool, true, false, ◌||◌, refl, sym, ap, ◌∙◌}
use Rattle.std.proofs.lemmas.List.{drop_more}
use Rattle.std.proofs.Math.ListN.{drop_of_length-le}
use Rattle.std.specs.List.{list_any}
use Rattle.std.specs.Prelude.{◌==◌}
use Rattle.ssa_assigned.specs.Assigned.{has}

pub or_assoc : (a b c : Bool) → (a || b) || c ≡ a || (b || c)
or_assoc true b c = refl
or_assoc false b c = refl

pub or_false : (a : Bool) → a || false ≡ a
or_false true = refl
or_false false = refl

pub noted_more : {A : Type 0} (f : A → Bool) (xs : List A) (i : ℕ) (s : A) (a n r : Bool) → i < length xs → s ≡ get_or xs i s → n ≡ (a || f s) → a || list_any f (drop i xs) ≡ r → n || list_any f (drop (i + 1) xs) ≡ r
noted_more f xs i s a n r lt is one before =
    let more : drop i xs ≡ s ∷ drop (i + 1) xs = drop_more xs i s lt ∙ ap (λ z. z ∷ drop (i + 1) xs) (sym is) in
    ap (λ b. b || list_any f (drop (i + 1) xs)) one ∙ or_assoc a (f s) (list_any f (drop (i + 1) xs)) ∙ sym (ap (λ l. a || list_any f l) more) ∙ before

pub noted_end : {A : Type 0} (f : A → Bool) (xs : List A) (i : ℕ) (a r : Bool) → length xs ≤ i → a || list_any f (drop i xs) ≡ r → a ≡ r
noted_end f xs i a r le before = sym (or_false a) ∙ ap (λ l. a || list_any f l) (sym (drop_of_length-le xs le)) ∙ before

pub has_last : (xs : List ℕ) (y x : ℕ) → has (xs ++ y ∷ []) x ≡ has xs x || (y == x)
has_last [] y x = or_false (y == x)
has_last (z ∷ xs) y x = ap (λ b. (z == x) || b) (has_last xs y x) ∙ sym (or_assoc (z == x) (has xs x) (y == x))
