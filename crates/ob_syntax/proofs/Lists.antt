-- Leaves of lists.
use Rattle.std.proofs.Common.{◌≡◌, List, [], ◌∷◌, ◌++◌, sym, ap, ◌∙◌, append_assoc}
use Rattle.std.proofs.lemmas.List.{append-nil}
use Rattle.ob_syntax.specs.Leaves.{Leaf, each}

-- one more at the end
pub each_more : {A : Type 0} (text : A → List Leaf) (xs : List A) (x : A) → each text (xs ++ x ∷ []) ≡ each text xs ++ text x
each_more text [] x = append-nil (text x)
each_more text (y ∷ xs) x = ap (λ t. text y ++ t) (each_more text xs x) ∙ sym (append_assoc (text y) (each text xs) (text x))
