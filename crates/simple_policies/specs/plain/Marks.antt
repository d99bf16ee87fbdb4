-- What is live into several nodes.
use Rattle.std.specs.Prelude.{ℕ, List, [], ◌∷◌, ◌++◌}
use Rattle.lir_core.specs.Rows.{live_into}

-- of so many values those that are live into each of some nodes, one node after the other
abbrev pub live_into_each : ℕ → List (List ℕ) → List ℕ → List ℕ
live_into_each values live [] = []
live_into_each values live (n ∷ ns) = live_into values live n ++ live_into_each values live ns
