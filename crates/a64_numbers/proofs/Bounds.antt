-- What the table's rows compute is a register: a number below 2 ^ 64.
use Rattle.std.proofs.Common.{ℕ, zero, suc, ◌^◌, ◌<◌, Bool, true, false, cond, arith}
use Rattle.wrapping_numbers.specs.Numbers.{mul64}
use Rattle.wrapping_numbers.proofs.Wrapping.{add64_lt, neg64_lt, not64_lt}
use Rattle.wrapping_numbers.proofs.Amounts.{lsl64_lt, lsr64_lt, asr64_lt}
use Rattle.a64_numbers.specs.Operands.{immediate, shifted}
use Rattle.a64_numbers.specs.Branches.{branch_to, sign_extended}
use Rattle.a64_numbers.specs.Conditions.{holds, csel, csinc, csneg}
use Rattle.a64_numbers.specs.Moves.{movz, movn, movk}
use Rattle.a64_numbers.specs.declared.flags.Flags.{Flags}
use Rattle.a64_instr.specs.declared.instr.Cond.{Cond}
use Rattle.a64_instr.specs.declared.instr.Shift.{Shift}
use Rattle.a64_instr.specs.declared.instr.Shift.TheVariants.{Lsl, Lsr, Asr}

pub shifted_lt : (shift : Shift) (a n : ℕ) → a < 2 ^ 64 → shifted shift a n < 2 ^ 64
shifted_lt Lsl a n p = lsl64_lt a n
shifted_lt Lsr a n p = lsr64_lt a n p
shifted_lt Asr a n p = asr64_lt a n p

pub immediate_lt : (n : ℕ) (high : Bool) → n < 2 ^ 12 → immediate n high < 2 ^ 24
immediate_lt n true p = omega arith
immediate_lt n false p = omega arith

pub branch_to_lt : (bits pc field : ℕ) → branch_to bits pc field < 2 ^ 64
branch_to_lt bits pc field = add64_lt pc (mul64 4 (sign_extended bits field))

selected_lt : (b : Bool) (n m : ℕ) → n < 2 ^ 64 → m < 2 ^ 64 → cond b n m < 2 ^ 64
selected_lt true n m p q = p
selected_lt false n m p q = q

pub csel_lt : (c : Cond) (f : Flags) (n m : ℕ) → n < 2 ^ 64 → m < 2 ^ 64 → csel c f n m < 2 ^ 64
csel_lt c f n m p q = selected_lt (holds c f) n m p q

pub csinc_lt : (c : Cond) (f : Flags) (n m : ℕ) → n < 2 ^ 64 → csinc c f n m < 2 ^ 64
csinc_lt c f n m p = selected_lt (holds c f) n _ p (add64_lt m 1)

pub csneg_lt : (c : Cond) (f : Flags) (n m : ℕ) → n < 2 ^ 64 → csneg c f n m < 2 ^ 64
csneg_lt c f n m p = selected_lt (holds c f) n _ p (neg64_lt m)

-- half i is one of four
four : (i : ℕ) (P : ℕ → Type 0) → P 0 → P 1 → P 2 → P 3 → i < 4 → P i
four zero P a b c d h = a
four (suc zero) P a b c d h = b
four (suc (suc zero)) P a b c d h = c
four (suc (suc (suc zero))) P a b c d h = d
four (suc (suc (suc (suc i)))) P a b c d h = absurd (omega arith)

pub movz_lt : (imm i : ℕ) → imm < 2 ^ 16 → i < 4 → movz imm i < 2 ^ 64
movz_lt imm i p = four i (λ i. movz imm i < 2 ^ 64) (omega arith) (omega arith) (omega arith) (omega arith)

pub movn_lt : (imm i : ℕ) → movn imm i < 2 ^ 64
movn_lt imm i = not64_lt (movz imm i)

pub movk_lt : (d imm i : ℕ) → d < 2 ^ 64 → imm < 2 ^ 16 → i < 4 → movk d imm i < 2 ^ 64
movk_lt d imm i p q = four i (λ i. movk d imm i < 2 ^ 64) (omega arith) (omega arith) (omega arith) (omega arith)
