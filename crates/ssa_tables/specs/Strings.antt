-- Strings that are put behind those that stand before.
use Rattle.std.specs.Prelude.{◌≡◌, ℕ, ◌+◌, List, [], ◌∷◌, ◌++◌, length}
use Rattle.ob_types.specs.declared.program.Procedure.{Procedure}
use Rattle.ssa_tables.specs.Places.{starts, string_size, finish, string_cells}

-- with what comes behind, they are as if they had been put in line at once
pub record Adds (old new : List ℕ) (first end : ℕ) (texts : List (List ℕ)) : Type 0 where
  pub by : (rest : List (List ℕ)) → new ++ starts string_size end rest ≡ old ++ starts string_size first (texts ++ rest)

-- with what comes behind, their cells are counted as if all had been counted at once
pub record Counts (first end : ℕ) (texts : List (List ℕ)) : Type 0 where
  pub by : (rest : List (List ℕ)) → finish string_cells end rest ≡ finish string_cells first (texts ++ rest)

-- which string is each procedure's first, where so many stand before those of these procedures
abbrev pub first_strings : ℕ → List Procedure → List ℕ
first_strings at [] = []
first_strings at (q ∷ qs) = at ∷ first_strings (at + length q.texts) qs
