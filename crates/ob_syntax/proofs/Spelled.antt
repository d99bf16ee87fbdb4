-- Leaves that are spelled by a tree of the grammar.
use Rattle.std.proofs.Common.{◌≡◌, ℕ, List, [], ◌∷◌, ◌++◌, Option, Some, None, refl, ap, ap₂}
use Rattle.ob_grammar.specs.Grammar.{Production, Phrase, one, part, ◌·◌, ◌∣◌, opt, many, nest, rule}
use Rattle.ob_grammar.specs.Leaves as T
use Rattle.ob_grammar.specs.Leaves.{Leaf, Tree, leaves}
use Rattle.ob_syntax.specs.Leaves.{leaf, maybe, optional, each}

-- these leaves are spelled by a tree of f
pub record Spelled (f : Phrase) (x : List Leaf) : Type 0 where
  pub tree : Tree f
  pub same : leaves tree ≡ x

-- the same leaves at both places
abbrev both : {u v x y : List Leaf} → u ≡ x → v ≡ y → u ++ v ≡ x ++ y
both e h = ap₂ (λ a b. a ++ b) e h

abbrev pub symbol : {k : ℕ} (i : ℕ) → Spelled (one k) (leaf (one k) i)
symbol i = record { tree = T.symbol i; same = refl }

infixr 12 ◌then◌
abbrev pub ◌then◌ : {f g : Phrase} {x y : List Leaf} → Spelled f x → Spelled g y → Spelled (f · g) (x ++ y)
a then b = record { tree = T.◌then◌ a.tree b.tree; same = both a.same b.same }

abbrev pub left : {f g : Phrase} {x : List Leaf} → Spelled f x → Spelled (f ∣ g) x
left a = record { tree = T.left a.tree; same = a.same }

abbrev pub right : {f g : Phrase} {x : List Leaf} → Spelled g x → Spelled (f ∣ g) x
right a = record { tree = T.right a.tree; same = a.same }

abbrev pub there : {f : Phrase} {x : List Leaf} → Spelled f x → Spelled (opt f) x
there a = record { tree = T.there a.tree; same = a.same }

abbrev pub absent : {f : Phrase} → Spelled (opt f) []
absent = record { tree = T.absent; same = refl }

abbrev pub again : {f : Phrase} {x y : List Leaf} → Spelled f x → Spelled (many f) y → Spelled (many f) (x ++ y)
again a b = record { tree = T.again a.tree b.tree; same = both a.same b.same }

abbrev pub done : {f : Phrase} → Spelled (many f) []
done = record { tree = T.done; same = refl }

abbrev pub named : {p : Production} {x : List Leaf} → Spelled (rule p) x → Spelled (part p) x
named a = record { tree = T.named a.tree; same = a.same }

abbrev pub within : {k : ℕ} (i : ℕ) {f : Phrase} {x : List Leaf} → Spelled f x → Spelled (nest k f) (leaf (one k) i ++ x)
within {k} i a = record { tree = T.within i a.tree; same = ap (λ z. record { asks = k; at = i } ∷ z) a.same }

abbrev pub maybe_symbol : {k : ℕ} (x : Option ℕ) → Spelled (opt (one k)) (maybe (one k) x)
maybe_symbol None = absent
maybe_symbol (Some i) = there (symbol i)

abbrev pub if_there : {A : Type 0} {f : Phrase} (text : A → List Leaf) → ((x : A) → Spelled f (text x)) → (x : Option A) → Spelled (opt f) (optional text x)
if_there text h None = absent
if_there text h (Some x) = there (h x)

abbrev pub all : {A : Type 0} {f : Phrase} (text : A → List Leaf) → ((x : A) → Spelled f (text x)) → (xs : List A) → Spelled (many f) (each text xs)
all text h [] = done
all text h (x ∷ xs) = again (h x) (all text h xs)
