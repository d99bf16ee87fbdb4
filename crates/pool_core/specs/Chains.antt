-- The children of each trace as chains of numbers.
use Rattle.std.specs.Prelude.{◌≡◌, ℕ, ◌≤◌, List, [], ◌∷◌, length, drop, Option, Some, None, slice_index_or}
use Rattle.pool_core.specs.Tree.{IsTree, is_child, picked, children}

-- from this number on, each followed by the next, the chain has these numbers and ends
abbrev pub Chained : List (Option ℕ) → Option ℕ → List ℕ → Type 0
Chained next None [] = Unit {0}
Chained next (Some c) (x ∷ xs) = (c ≡ x) × Chained next (slice_index_or next c None) xs
Chained next o xs = ⊥

-- the chain that begins at each trace's first number has the children of the trace
pub record IsIndex (P first next : List (Option ℕ)) : Type 0 where
  pub tree : IsTree P
  pub small : length P ≤ 262144
  pub firsts : length first ≡ length P
  pub nexts : length next ≡ length P
  pub chains : (t : ℕ) → Chained next (slice_index_or first t None) (children P t)

-- the same for the traces from n on alone
pub record IsIndexFrom (n : ℕ) (P first next : List (Option ℕ)) : Type 0 where
  pub firsts : length first ≡ length P
  pub nexts : length next ≡ length P
  pub chains : (t : ℕ) → Chained next (slice_index_or first t None) (picked (is_child t) n (drop n P))
