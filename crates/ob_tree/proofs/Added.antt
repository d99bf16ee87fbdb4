-- Leaves that are added one part after another.
use Rattle.std.proofs.Common.{◌≡◌, ℕ, ◌+◌, ◌<◌, ◌≤◌, List, [], ◌∷◌, ◌++◌, length, drop, get_or, refl, sym, ap, ◌∙◌, subst, append_assoc}
use Rattle.std.proofs.lemmas.List.{append-nil, drop_more}
use Rattle.std.proofs.Math.ListN.{drop_of_length-le}
use Rattle.ob_syntax.specs.Leaves.{Leaf, indices, each}
use Rattle.ob_tree.specs.Adds.{Adds}

indices_append : (x y : List Leaf) → indices (x ++ y) ≡ indices x ++ indices y
indices_append [] y = refl
indices_append (m ∷ x) y = ap (λ z. m.at ∷ z) (indices_append x y)

pub adds_then : {a b c : List ℕ} {x y : List Leaf} → Adds a b x → Adds b c y → Adds a c (x ++ y)
adds_then {a} {b} {c} {x} {y} h k = record {
  all = k.all ∙ ap (λ z. z ++ indices y) h.all ∙ append_assoc a (indices x) (indices y) ∙ ap (λ z. a ++ z) (sym (indices_append x y));
}

pub adds_as : {a b : List ℕ} {x y : List Leaf} → y ≡ x → Adds a b x → Adds a b y
adds_as {a} {b} e h = subst (Adds a b) (sym e) h

-- the one index of these leaves
pub adds_index : {a b : List ℕ} {x : List Leaf} {i : ℕ} → indices x ≡ i ∷ [] → Adds a b (record { asks = 0; at = i } ∷ []) → Adds a b x
adds_index {a} e h = record { all = h.all ∙ ap (λ z. a ++ z) (sym e) }

-- the leaves of a list from its i-th item on are still to be added
abbrev pub Adding : {A : Type 0} → (A → List Leaf) → List A → ℕ → List ℕ → List ℕ → Type 0
Adding text xs i a b = b ++ indices (each text (drop i xs)) ≡ a ++ indices (each text xs)

pub adding_more : {A : Type 0} (text : A → List Leaf) (xs : List A) (i : ℕ) (d : A) (a b c : List ℕ) → i < length xs →
    Adding text xs i a b → Adds b c (text (get_or xs i d)) → Adding text xs (i + 1) a c
adding_more text xs i d a b c lt h k =
    let here = text (get_or xs i d) in
    let rest = each text (drop (i + 1) xs) in
    ap (λ z. z ++ indices rest) k.all
    ∙ append_assoc b (indices here) (indices rest)
    ∙ ap (λ z. b ++ z) (sym (indices_append here rest))
    ∙ ap (λ z. b ++ indices (each text z)) (sym (drop_more xs i d lt))
    ∙ h

pub adding_end : {A : Type 0} (text : A → List Leaf) (xs : List A) (i : ℕ) (a b : List ℕ) → length xs ≤ i → Adding text xs i a b → Adds a b (each text xs)
adding_end text xs i a b le h = record {
  all = sym (append-nil b) ∙ ap (λ z. b ++ indices (each text z)) (sym (drop_of_length-le xs le)) ∙ h;
}
