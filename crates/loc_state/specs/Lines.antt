-- The lines before a call.
use Rattle.std.specs.Prelude.{ℕ, suc, cond, List, [], ◌∷◌, ◌++◌, Option}
use Rattle.block_runs.specs.Blocks.{Operation}
use Rattle.lir_core.specs.declared.places.Place.{Place}
use Rattle.lir_core.specs.declared.places.Place.TheVariants.{Reg, Home}
use Rattle.lir_core.specs.declared.places.Move.{Move}
use Rattle.lir_core.specs.declared.places.Line.{Line}
use Rattle.lir_core.specs.declared.places.Line.TheVariants.{Moves, Target}
use Rattle.lir_core.specs.Spots.{in_register}
use Rattle.lir_core.specs.Lines.{is_aimed, arguments, argument_place}
use Rattle.loc_state.specs.Registers.{register_of}

-- where a value is taken from: its register, else its home
abbrev pub place_of : List (Option ℕ) → ℕ → Place
place_of regs v = cond (in_register regs v) (Reg (register_of v regs)) (Home v)

abbrev pub argument_moves : (ℕ → Place) → ℕ → List ℕ → List Move
argument_moves from i [] = []
argument_moves from i (u ∷ us) = record { to = argument_place i; from = from u } ∷ argument_moves from (suc i) us

-- the first of a call's uses is its target
abbrev pub aims : (ℕ → Place) → List ℕ → List Line
aims from [] = []
aims from (u ∷ us) = Target (from u) ∷ []

-- one line moves all arguments at once, where there are any
abbrev pub moves : (ℕ → Place) → List ℕ → List Line
moves from [] = []
moves from (u ∷ us) = Moves (argument_moves from 0 (u ∷ us)) ∷ []

abbrev pub call_lines : (ℕ → Place) → Operation → List Line
call_lines from op = cond (is_aimed op.code) (aims from op.uses) [] ++ moves from (arguments op)
