-- Leaves: the terminals of a tree.
use Rattle.std.specs.Prelude.{ℕ, suc, Option, None, Some, List, [], ◌∷◌, ◌++◌, Box}
use Rattle.std.specs.Global.{Global}
use Rattle.ob_grammar.specs.Grammar.{Phrase, one}
pub use Rattle.ob_grammar.specs.Leaves.{Leaf}

-- this terminal at an index
abbrev pub leaf : Phrase → ℕ → List Leaf
leaf (one k) i = record { asks = k; at = i } ∷ []
leaf f i = []

-- their indices
abbrev pub indices : List Leaf → List ℕ
indices [] = []
indices (x ∷ xs) = x.at ∷ indices xs

-- symbols of these terminals, with their indices from i on
abbrev pub numbered : ℕ → List ℕ → List Leaf
numbered i [] = []
numbered i (k ∷ w) = record { asks = k; at = i } ∷ numbered (suc i) w

infixr 12 ◌⧺◌
-- leaves and then others
abbrev pub ◌⧺◌ : List Leaf → List Leaf → List Leaf
xs ⧺ ys = xs ++ ys

-- this terminal, where it stands
abbrev pub maybe : Phrase → Option ℕ → List Leaf
maybe f None = []
maybe f (Some i) = leaf f i

-- the leaves of what a box holds
abbrev pub boxed : {A : Type 0} → (A → List Leaf) → Box A Global → List Leaf
boxed text x = text x.value

-- the leaves of what may stand
abbrev pub optional : {A : Type 0} → (A → List Leaf) → Option A → List Leaf
optional text None = []
optional text (Some x) = text x

-- the leaves of each, in order
abbrev pub each : {A : Type 0} → (A → List Leaf) → List A → List Leaf
each text [] = []
each text (x ∷ xs) = text x ++ each text xs
