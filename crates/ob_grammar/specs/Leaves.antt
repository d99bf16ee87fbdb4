-- The trees of a right side with their symbols: which symbols a tree has, by index, in order.
use Rattle.std.specs.Prelude.{ℕ, List, [], ◌∷◌, ◌++◌}
use Rattle.ob_grammar.specs.Grammar.{Production, Phrase, one, part, ◌·◌, ◌∣◌, opt, many, nest, rule}

-- a terminal of a tree: the number of the terminal that it is to be, and the index of its symbol
pub record Leaf : Type 0 where
  pub asks : ℕ
  pub at : ℕ

infixr 12 ◌then◌
-- a tree of a right side, with the index of each of its symbols
pub data Tree : Phrase → Type 0 where
  symbol : {k : ℕ} → ℕ → Tree (one k)
  named : {p : Production} → Tree (rule p) → Tree (part p)
  ◌then◌ : {f g : Phrase} → Tree f → Tree g → Tree (f · g)
  left : {f g : Phrase} → Tree f → Tree (f ∣ g)
  right : {f g : Phrase} → Tree g → Tree (f ∣ g)
  there : {f : Phrase} → Tree f → Tree (opt f)
  absent : {f : Phrase} → Tree (opt f)
  again : {f : Phrase} → Tree f → Tree (many f) → Tree (many f)
  done : {f : Phrase} → Tree (many f)
  within : {k : ℕ} {f : Phrase} → ℕ → Tree f → Tree (nest k f)

-- what a tree spells
abbrev pub leaves : {f : Phrase} → Tree f → List Leaf
leaves (symbol {k} i) = record { asks = k; at = i } ∷ []
leaves (named x) = leaves x
leaves (x then y) = leaves x ++ leaves y
leaves (left x) = leaves x
leaves (right x) = leaves x
leaves (there x) = leaves x
leaves absent = []
leaves (again x y) = leaves x ++ leaves y
leaves done = []
leaves (within {k} i x) = record { asks = k; at = i } ∷ leaves x

-- what the leaves are to be
abbrev pub asked : List Leaf → List ℕ
asked [] = []
asked (x ∷ xs) = x.asks ∷ asked xs
