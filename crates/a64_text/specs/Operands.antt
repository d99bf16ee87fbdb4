-- The parts of an instruction's text: registers, numbers, conditions, shifts, targets.
use Rattle.std.specs.Prelude.{ℕ, zero, suc, ◌+◌, ◌*◌, ◌-◌, ◌/◌, ◌%◌, ◌^◌, ◌==◌, nat_lt, nat_le, Bool, true, false, List, [], ◌∷◌, ◌++◌, codes, if◌then◌else◌}
use Rattle.std.specs.Fmt.{decimal, digits, digit_glyph}
use Rattle.a64_instr.specs.declared.instr.Shift.{Shift}
use Rattle.a64_instr.specs.declared.instr.Shift.TheVariants.{Lsl, Lsr, Asr}
use Rattle.a64_instr.specs.declared.instr.Cond.{Cond}
use Rattle.a64_instr.specs.declared.instr.Cond.TheVariants.{Eq, Ne, Hs, Lo, Mi, Pl, Vs, Vc, Hi, Ls, Ge, Lt, Gt, Le, Al}
use Rattle.a64_text.specs.declared.parts.Told.{Told}
use Rattle.a64_text.specs.declared.parts.Told.TheVariants.{Beside, At}

-- a register of 64 bits, its low 32 bits, and one of 64 bits that is SP where the others are the register of zeros
abbrev pub x_text : ℕ → List ℕ
x_text n = if n == 31 then codes "xzr" else codes "x" ++ decimal n

abbrev pub w_text : ℕ → List ℕ
w_text n = if n == 31 then codes "wzr" else codes "w" ++ decimal n

abbrev pub sp_text : ℕ → List ℕ
sp_text n = if n == 31 then codes "sp" else codes "x" ++ decimal n

abbrev pub hex : ℕ → List ℕ
hex n = codes "0x" ++ digits 16 false n

-- the name of a condition
abbrev pub cond_text : Cond → List ℕ
cond_text Eq = codes "eq"
cond_text Ne = codes "ne"
cond_text Hs = codes "cs"
cond_text Lo = codes "cc"
cond_text Mi = codes "mi"
cond_text Pl = codes "pl"
cond_text Vs = codes "vs"
cond_text Vc = codes "vc"
cond_text Hi = codes "hi"
cond_text Ls = codes "ls"
cond_text Ge = codes "ge"
cond_text Lt = codes "lt"
cond_text Gt = codes "gt"
cond_text Le = codes "le"
cond_text Al = codes "al"

-- how and by how much the last register is shifted; nothing for LSL by 0
abbrev pub shift_text : Shift → ℕ → List ℕ
shift_text Lsl by = if by == 0 then [] else codes ", lsl #" ++ decimal by
shift_text Lsr by = codes ", lsr #" ++ decimal by
shift_text Asr by = codes ", asr #" ++ decimal by

-- whether 12 bits count 4096s
abbrev pub high_text : Bool → List ℕ
high_text true = codes ", lsl #12"
high_text false = []

-- which half word 16 bits are; nothing for the lowest
abbrev pub half_text : ℕ → List ℕ
half_text half = if half == 0 then [] else codes ", lsl #" ++ decimal (half * 16)

-- an offset in bytes; nothing for 0
abbrev pub offset_text : ℕ → List ℕ
offset_text bytes = if bytes == 0 then [] else codes ", #" ++ decimal bytes

---- Where a branch goes

-- so many words on, or back
abbrev pub words_on : ℕ → List ℕ
words_on n = codes ".+" ++ decimal (n * 4)

abbrev pub words_back : ℕ → List ℕ
words_back n = codes ".-" ++ decimal (n * 4)

-- told beside the branch in bytes; or, of the branch that is word k, as the target's word, where there is one
abbrev pub forward_text : Told → ℕ → List ℕ
forward_text Beside n = words_on n
forward_text (At k) n = decimal (k + n)

abbrev pub backward_text : Told → ℕ → List ℕ
backward_text Beside n = words_back n
backward_text (At k) n = if nat_le n k then decimal (k - n) else words_back n

-- the target of a field of so many values, the upper half of which are negative numbers of words
abbrev pub target_text : Told → (values : ℕ) → ℕ → List ℕ
target_text told values n = if nat_lt n (values / 2) then forward_text told n else backward_text told (values - n)

---- Words that are no instruction's

-- the last so many hexadecimal digits of a number
abbrev pub last_digits : ℕ → ℕ → List ℕ
last_digits zero n = []
last_digits (suc k) n = digit_glyph false (n / 2 ^ (4 * k) % 16) ∷ last_digits k n
