-- How many stores, loads and moves the lines of a trace have.
use Rattle.std.specs.Prelude.{ℕ, ◌+◌, List, [], ◌∷◌, if◌then◌else◌}
use Rattle.lir_core.specs.declared.places.Move.{Move}
use Rattle.lir_core.specs.declared.places.Line.{Line}
use Rattle.lir_core.specs.declared.places.Line.TheVariants.{Store, Load, Moves, Result, Target}
use Rattle.lir_core.specs.declared.places.Line.TheVariants.{Lir as Does}
use Rattle.lir_core.specs.Spots.{same, spot}
use Rattle.trace_tables.specs.declared.counts.Counts.{Counts}

abbrev pub none : Counts
none = record { stores = 0; loads = 0; moves = 0 }

-- a move to the place where its value is already is none
abbrev pub moves_in : List Move → ℕ
moves_in [] = 0
moves_in (m ∷ ms) = (if same (spot m.to) (spot m.from) then 0 else 1) + moves_in ms

abbrev pub with_line : Counts → Line → Counts
with_line c (Does i) = c
with_line c (Store r v) = record c { stores = c.stores + 1 }
with_line c (Load r v) = record c { loads = c.loads + 1 }
with_line c (Moves ms) = record c { moves = c.moves + moves_in ms }
with_line c (Result r) = record c { moves = c.moves + 1 }
with_line c (Target from) = record c { moves = c.moves + 1 }

abbrev pub with_lines : Counts → List Line → Counts
with_lines c [] = c
with_lines c (l ∷ ls) = with_lines (with_line c l) ls

abbrev pub with_nodes : Counts → List (List Line) → Counts
with_nodes c [] = c
with_nodes c (ls ∷ lss) = with_nodes (with_lines c ls) lss
