-- The moves of a constant leave it in the register, whatever was there.
use Rattle.std.proofs.Common.{◌≡◌, ℕ, ◌^◌, ◌<◌, ◌≤◌, Bool, true, false, List, [], ◌∷◌, length, Option, Some, None, arith}
use Rattle.std.proofs.lemmas.Bool.Decides.{nat_tests}
use Rattle.a64_numbers.specs.declared.moves.Move.{Move}
use Rattle.a64_numbers.specs.Moves.{half, movz, movk, moved_by, half_moves, given, more_ones, constant_moves}

half_moves_make : (ones : Bool) (n d : ℕ) → n < 2 ^ 64 → moved_by (given (half_moves ones n)) d ≡ n
half_moves_make true n d p = grind (arith, nat_tests)
half_moves_make false n d p = grind (arith, nat_tests)

pub constant_moves_make : (n d : ℕ) → n < 2 ^ 64 → moved_by (constant_moves n) d ≡ n
constant_moves_make n d p = half_moves_make (more_ones n) n d p

-- the two lower halves make a number of 32 bits
pub two_halves_make : (n : ℕ) → n < 2 ^ 32 → movk (movz (half n 0) 0) (half n 1) 1 ≡ n
two_halves_make n p = omega arith

-- one move at least, and four at most
at_least : (ones : Bool) (n : ℕ) → 1 ≤ length (given (half_moves ones n))
at_least ones n = grind (arith, nat_tests)

pub some_moves : (n : ℕ) → 1 ≤ length (constant_moves n)
some_moves n = at_least (more_ones n) n

given_le : (ms : List (Option Move)) → length (given ms) ≤ length ms
given_le [] = omega arith
given_le (None ∷ ms) = let h = given_le ms in omega arith
given_le (Some m ∷ ms) = let h = given_le ms in omega arith

pub four_moves : (n : ℕ) → length (constant_moves n) ≤ 4
four_moves n = given_le (half_moves (more_ones n) n)

-- a half is a number of sixteen bits
pub half_lt : (n i : ℕ) → half n i < 2 ^ 16
half_lt n i = omega arith
