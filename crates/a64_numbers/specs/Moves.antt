-- Moves of sixteen bits into a register, and the moves that make a constant.
use Rattle.std.specs.Prelude.{ℕ, ◌+◌, ◌-◌, ◌*◌, ◌/◌, ◌%◌, ◌^◌, Bool, true, false, cond, ◌==◌, nat_lt, List, [], ◌∷◌, Option, Some, None}
use Rattle.a64_numbers.specs.declared.moves.Move.{Move}
use Rattle.a64_numbers.specs.declared.moves.Move.TheVariants.{Movz, Movn, Movk}

-- sixteen bits of n, half i from 0, the lowest
abbrev pub half : ℕ → ℕ → ℕ
half n i = n / 2 ^ (16 * i) % 2 ^ 16

-- MOVZ: that half alone
abbrev pub movz : ℕ → ℕ → ℕ
movz imm i = imm * 2 ^ (16 * i)

-- MOVN: the complement of that
abbrev pub movn : ℕ → ℕ → ℕ
movn imm i = 2 ^ 64 - 1 - imm * 2 ^ (16 * i)

-- MOVK: d with that half replaced
abbrev pub movk : ℕ → ℕ → ℕ → ℕ
movk d imm i = d - half d i * 2 ^ (16 * i) + imm * 2 ^ (16 * i)

-- what a move leaves in a register that holds d
abbrev pub moved : Move → ℕ → ℕ
moved (Movz imm i) d = movz imm i
moved (Movn imm i) d = movn imm i
moved (Movk imm i) d = movk d imm i

-- what moves leave there, made one after the other
abbrev pub moved_by : List Move → ℕ → ℕ
moved_by [] d = d
moved_by (m ∷ ms) d = moved_by ms (moved m d)

-- how many of the four halves of n are v
abbrev pub halves : ℕ → ℕ → ℕ
halves n v = cond (half n 0 == v) 1 0 + cond (half n 1 == v) 1 0 + cond (half n 2 == v) 1 0 + cond (half n 3 == v) 1 0

-- more halves are FFFF than 0, so that MOVN begins
abbrev pub more_ones : ℕ → Bool
more_ones n = nat_lt (halves n 0) (halves n 0xffff)

-- the half that needs no move of its own: FFFF after MOVN, 0 after MOVZ
abbrev pub filling : Bool → ℕ
filling ones = cond ones 0xffff 0

-- the lowest half that isn't so; 0 where each is
abbrev pub lowest : Bool → ℕ → ℕ
lowest ones n =
    cond (half n 0 == filling ones)
    (cond (half n 1 == filling ones) (cond (half n 2 == filling ones) (cond (half n 3 == filling ones) 0 3) 2) 1)
    0

-- the move that begins
abbrev pub beginning : Bool → ℕ → ℕ → Move
beginning true imm i = Movn (0xffff - imm) i
beginning false imm i = Movz imm i

-- the move for half i: MOVN or MOVZ of the lowest, MOVK of each other one that isn't filled
abbrev pub move_of_half : Bool → ℕ → ℕ → Option Move
move_of_half ones n i =
    cond (i == lowest ones n) (Some (beginning ones (half n i) i))
    (cond (half n i == filling ones) None (Some (Movk (half n i) i)))

-- the moves for the four halves, lowest first
abbrev pub half_moves : Bool → ℕ → List (Option Move)
half_moves ones n = move_of_half ones n 0 ∷ move_of_half ones n 1 ∷ move_of_half ones n 2 ∷ move_of_half ones n 3 ∷ []

-- those that are there
abbrev pub given : List (Option Move) → List Move
given [] = []
given (None ∷ ms) = given ms
given (Some m ∷ ms) = m ∷ given ms

-- the moves that make the constant n
abbrev pub constant_moves : ℕ → List Move
constant_moves n = given (half_moves (more_ones n) n)
