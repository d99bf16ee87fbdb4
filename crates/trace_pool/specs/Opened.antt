-- The words of a pool that opens.
use Rattle.std.specs.Prelude.{ℕ, List, ◌∷◌, length, Option}
use Rattle.pool_core.specs.Tree.{roots}
use Rattle.pool_core.specs.Runs.{opening_cells}

-- head, tail, finished, the mark, and the cells, of which the first show the traces without a parent
abbrev pub opening_words : List (Option ℕ) → List ℕ
opening_words P = 0 ∷ length (roots P) ∷ 0 ∷ 0 ∷ opening_cells P
