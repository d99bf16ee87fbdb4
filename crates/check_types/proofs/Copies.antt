-- Copies of maps.
use Rattle.std.proofs.Common.{◌≡◌, ℕ, List, [], ◌∷◌, Bool, cond, Some, Vec, Global, refl, ap, ap₂, ◌∙◌}
use Rattle.std.specs.List.{AllZip}
use Rattle.std.specs.BTreeMap.{is_at}
use Rattle.std.specs.Map.{lookup}
use Rattle.std.specs.Cmp.Lexicographic.{slice_cmp}
use Rattle.std.specs.Ordering.{nat_cmp}

pub all_equal : {A : Type 0} (xs ys : List A) → AllZip (λ (x y : A). y ≡ x) xs ys → ys ≡ xs
all_equal [] [] h = refl
all_equal [] (y ∷ ys) h = absurd h
all_equal (x ∷ xs) [] h = absurd h
all_equal (x ∷ xs) (y ∷ ys) h = ap₂ (λ z zs. z ∷ zs) h.0 (all_equal xs ys h.1)

abbrev is_there : List ℕ → List ℕ → Bool
is_there q items = is_at (λ (k : List ℕ). slice_cmp nat_cmp q k) items

-- a copy has the same at all bytes
pub same_there : {X : Type 0} (C : Vec ℕ Global → Vec ℕ Global → Type 0) (D : X → X → Type 0) → ((a b : Vec ℕ Global) → C a b → b.items ≡ a.items) → ((x y : X) → D x y → y ≡ x) → (q : List ℕ) (es fs : List (Vec ℕ Global × X))
    → AllZip (λ (a b : Vec ℕ Global × X). C a.0 b.0 × D a.1 b.1) es fs → lookup (is_at (λ (k : Vec ℕ Global). slice_cmp nat_cmp q k.items)) fs ≡ lookup (is_at (λ (k : Vec ℕ Global). slice_cmp nat_cmp q k.items)) es
same_there C D f g q [] [] h = refl
same_there C D f g q [] (b ∷ fs) h = absurd h
same_there C D f g q (a ∷ es) [] h = absurd h
same_there C D f g q (a ∷ es) (b ∷ fs) h =
    ap (λ (k : List ℕ). cond (is_there q k) (Some b.1) (lookup (is_at (λ (k : Vec ℕ Global). slice_cmp nat_cmp q k.items)) fs)) (f a.0 b.0 (h.0).0)
    ∙ ap₂ (λ x o. cond (is_there q (a.0).items) (Some x) o) (g a.1 b.1 (h.0).1) (same_there C D f g q es fs h.1)
