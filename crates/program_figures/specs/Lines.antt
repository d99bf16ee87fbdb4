-- What lines of code move, store and load.
use Rattle.std.specs.Prelude.{ℕ, Bool, true, false, List, sum_by, count_by, if◌then◌else◌}
use Rattle.lir_core.specs.declared.places.Place.{Place}
use Rattle.lir_core.specs.declared.places.Place.TheVariants.{Reg, Home, Out}
use Rattle.lir_core.specs.declared.places.Move.{Move}
use Rattle.lir_core.specs.declared.places.Line.{Line}
use Rattle.lir_core.specs.declared.places.Line.TheVariants.{Store, Load, Moves, Target}
use Rattle.parallel_move.specs.declared.step.Step.{Step}
use Rattle.parallel_move.specs.declared.step.Step.TheVariants.{Copy, Save, Restore}
use Rattle.boundary_resolve.specs.declared.code_line.CodeLine.{CodeLine}
use Rattle.boundary_resolve.specs.declared.code_line.CodeLine.TheVariants.{Body, Edge}

-- whether a place is the home of a value
abbrev pub is_home : Place → Bool
is_home (Home value) = true
is_home (Reg register) = false
is_home (Out slot) = false

-- 1 for a home, else 0
abbrev pub home_count : Place → ℕ
home_count place = if is_home place then 1 else 0

-- the moves on edges: each step of one
abbrev pub moves_in : CodeLine → ℕ
moves_in (Edge step) = 1
moves_in _ = 0

---- Stores

-- the homes that a step writes
abbrev pub stores_of_step : Step → ℕ
stores_of_step (Copy to from) = home_count to
stores_of_step (Save from) = 0
stores_of_step (Restore to) = home_count to

-- and a line of a node; the arguments of a call go to registers and slots
abbrev pub stores_of_line : Line → ℕ
stores_of_line (Store reg value) = 1
stores_of_line _ = 0

abbrev pub stores_in : CodeLine → ℕ
stores_in (Body line) = stores_of_line line
stores_in (Edge step) = stores_of_step step
stores_in _ = 0

---- Loads

-- the homes that a step reads
abbrev pub loads_of_step : Step → ℕ
loads_of_step (Copy to from) = home_count from
loads_of_step (Save from) = home_count from
loads_of_step (Restore to) = 0

-- and a line of a node: a load, each argument of a call that comes from a home, a target of a call
abbrev pub loads_of_line : Line → ℕ
loads_of_line (Load reg value) = 1
loads_of_line (Moves moves) = count_by (λ (m : Move). is_home m.from) moves
loads_of_line (Target place) = home_count place
loads_of_line _ = 0

abbrev pub loads_in : CodeLine → ℕ
loads_in (Body line) = loads_of_line line
loads_in (Edge step) = loads_of_step step
loads_in _ = 0

---- All procedures

-- a count, added up over the lines of all procedures
abbrev pub over_all : (CodeLine → ℕ) → List (List CodeLine) → ℕ
over_all count parts = sum_by (λ lines. sum_by count lines) parts
