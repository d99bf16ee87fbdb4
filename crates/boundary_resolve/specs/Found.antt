-- Whether a value stays, by the register that was found for it, and the moves of those that don't.
use Rattle.std.specs.Prelude.{◌≡◌, ℕ, ◌<◌, ◌==◌, Bool, false, List, filter, Option, Some, None}
use Rattle.lir_core.specs.declared.places.Place.{Place}
use Rattle.lir_core.specs.declared.places.Move.{Move}
use Rattle.lir_core.specs.declared.places.Places.{Places}
use Rattle.lir_core.specs.Spots.{argument_of}
use Rattle.parallel_move.specs.Order.{is_moving}
use Rattle.boundary_resolve.specs.Moves.{place_of, reg_moves, home_moves, stays_home}

-- it is a register
abbrev pub is_in : Option ℕ → ℕ → Bool
is_in None r = false
is_in (Some found) r = r == found

-- there is none, and a home is the value's own
abbrev pub is_home : Option ℕ → ℕ → ℕ → Bool
is_home None v home = home == v
is_home (Some found) v home = false

-- what was found, if it is a register's number, is one of few
abbrev pub IsRegister : Option ℕ → Type 0
IsRegister found = (r : ℕ) → found ≡ Some r → r < 16

-- where a value behind an edge is before it
abbrev pub place_across : Places → List ℕ → List ℕ → ℕ → Place
place_across from params args v = place_of from (argument_of params args v)

-- the moves to registers and to homes, but for those from a place to itself
abbrev pub moving_registers : Places → List ℕ → List ℕ → List (Option ℕ) → List Move
moving_registers from params args regs = filter is_moving (reg_moves (place_across from params args) 0 regs)

abbrev pub moving_homes : Places → List ℕ → List ℕ → List ℕ → List Move
moving_homes from params args homed = filter is_moving (home_moves (stays_home from (argument_of params args)) (place_across from params args) homed)
