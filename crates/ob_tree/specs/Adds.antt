-- What the functions of the walk do to the list of indices.
use Rattle.std.specs.Prelude.{◌≡◌, ℕ, List, ◌++◌}
use Rattle.ob_syntax.specs.Leaves.{Leaf, indices}

-- the indices of these leaves were added, in order
pub record Adds (old new : List ℕ) (leaves : List Leaf) : Type 0 where
  pub all : new ≡ old ++ indices leaves
