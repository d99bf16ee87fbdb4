-- A branch whose field is the distance reaches its target.
use Rattle.std.proofs.Common.{◌≡◌, ℕ, ◌+◌, ◌-◌, ◌*◌, ◌/◌, ◌%◌, ◌^◌, ◌<◌, ◌≤◌, mod-lt, arith}
use Rattle.std.proofs.lemmas.Bool.Decides.{nat_tests}
use Rattle.std.proofs.lemmas.Nat.{pow_pos}
use Rattle.wrapping_numbers.specs.Numbers.{sub64}
use Rattle.a64_numbers.specs.Branches.{branch_to, branch_field}

-- within 128 MiB
pub branch_26_reaches : (pc target : ℕ) → pc < 2 ^ 32 → target < 2 ^ 32 → pc % 4 ≡ 0 → target % 4 ≡ 0 → target < pc + 2 ^ 27 → pc ≤ target + 2 ^ 27 → branch_to 26 pc (branch_field 26 pc target) ≡ target
branch_26_reaches pc target p q a b f g = grind (arith, nat_tests)

-- within 1 MiB
pub branch_19_reaches : (pc target : ℕ) → pc < 2 ^ 32 → target < 2 ^ 32 → pc % 4 ≡ 0 → target % 4 ≡ 0 → target < pc + 2 ^ 20 → pc ≤ target + 2 ^ 20 → branch_to 19 pc (branch_field 19 pc target) ≡ target
branch_19_reaches pc target p q a b f g = grind (arith, nat_tests)

-- a field below its half goes forward, so many words
pub branch_forward_26 : (pc n : ℕ) → n < 2 ^ 25 → pc + 4 * n < 2 ^ 64 → branch_to 26 pc n ≡ pc + 4 * n
branch_forward_26 pc n p q = grind (arith, nat_tests)

pub branch_forward_19 : (pc n : ℕ) → n < 2 ^ 18 → pc + 4 * n < 2 ^ 64 → branch_to 19 pc n ≡ pc + 4 * n
branch_forward_19 pc n p q = grind (arith, nat_tests)

-- and one that is n words before 2 ^ 26, or 2 ^ 19, goes back by n
pub branch_back_26 : (pc n : ℕ) → 0 < n → n ≤ 2 ^ 25 → 4 * n ≤ pc → pc < 2 ^ 64 → branch_to 26 pc (2 ^ 26 - n) ≡ pc - 4 * n
branch_back_26 pc n p q r s = grind (arith, nat_tests)

pub branch_back_19 : (pc n : ℕ) → 0 < n → n ≤ 2 ^ 18 → 4 * n ≤ pc → pc < 2 ^ 64 → branch_to 19 pc (2 ^ 19 - n) ≡ pc - 4 * n
branch_back_19 pc n p q r s = grind (arith, nat_tests)

-- a field fits its bits
pub branch_field_lt : (bits pc target : ℕ) → branch_field bits pc target < 2 ^ bits
branch_field_lt bits pc target = mod-lt (sub64 target pc / 4) (pow_pos bits)
