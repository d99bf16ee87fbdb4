use Rattle.std.proofs.Common.{◌≡◌, ◌++◌, ℕ, List, drop}
use Rattle.ssa_tables.specs.Places.{finish, string_cells}
use Rattle.ssa_tables.proofs.cells.behind_strings.Given as goal

abbrev pub invariant-loop-text : goal.invariant-loop-text
invariant-loop-text l = (rest : List (List ℕ)) → finish string_cells l.at (drop l.text-index l.texts ++ rest) ≡ finish string_cells l.first (l.texts ++ rest)
