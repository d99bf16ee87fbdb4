-- Where branches go: PC-relative, by a signed field of so many words.
use Rattle.std.specs.Prelude.{ℕ, ◌+◌, ◌-◌, ◌/◌, ◌%◌, ◌^◌, cond, nat_lt}
use Rattle.wrapping_numbers.specs.Numbers.{add64, sub64, mul64}

-- a field of so many bits read as two's complement, at 64 bits
abbrev pub sign_extended : ℕ → ℕ → ℕ
sign_extended bits field = cond (nat_lt field (2 ^ (bits - 1))) field (2 ^ 64 - 2 ^ bits + field)

-- where a branch with that field goes: pc + 4 times the signed field
abbrev pub branch_to : ℕ → ℕ → ℕ → ℕ
branch_to bits pc field = add64 pc (mul64 4 (sign_extended bits field))

-- the field of a branch from pc to a target, both multiples of 4
abbrev pub branch_field : ℕ → ℕ → ℕ → ℕ
branch_field bits pc target = sub64 target pc / 4 % 2 ^ bits
