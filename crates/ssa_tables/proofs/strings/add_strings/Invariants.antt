use Rattle.std.proofs.Common.{◌≡◌, ◌++◌, ℕ, List, drop}
use Rattle.ssa_tables.specs.Places.{starts, string_size}
use Rattle.ssa_tables.proofs.strings.add_strings.Given as goal

abbrev pub invariant-loop-text : goal.invariant-loop-text
invariant-loop-text l = (rest : List (List ℕ)) → l.list ++ starts string_size l.at (drop l.text-index l.texts ++ rest) ≡ l.initial.list ++ starts string_size l.first (l.texts ++ rest)
