-- Second operands: immediates of twelve bits, and shifted registers.
use Rattle.std.specs.Prelude.{ℕ, ◌*◌, ◌^◌, Bool, cond}
use Rattle.wrapping_numbers.specs.Shifts.{lsl64, lsr64, asr64}
use Rattle.a64_instr.specs.declared.instr.Shift.{Shift}
use Rattle.a64_instr.specs.declared.instr.Shift.TheVariants.{Lsl, Lsr, Asr}

-- the number of an immediate of 12 bits, shifted left by 12 where it is high
abbrev pub immediate : ℕ → Bool → ℕ
immediate n high = cond high (n * 2 ^ 12) n

-- the second operand of the shifted-register rows
abbrev pub shifted : Shift → ℕ → ℕ → ℕ
shifted Lsl a n = lsl64 a n
shifted Lsr a n = lsr64 a n
shifted Asr a n = asr64 a n
