-- How a mnemonic and its operands are written, by their kinds.
use Rattle.std.specs.Prelude.{ℕ, Bool, List, ◌++◌, codes}
use Rattle.a64_instr.specs.declared.instr.Shift.{Shift}
use Rattle.a64_instr.specs.declared.instr.Cond.{Cond}
use Rattle.a64_text.specs.declared.parts.Told.{Told}
use Rattle.a64_text.specs.Operands.{x_text, w_text, sp_text, hex, cond_text, shift_text, high_text, half_text, offset_text, target_text}

-- what stands before an operand, and the operand
abbrev pub x_after : List ℕ → ℕ → List ℕ
x_after before n = before ++ x_text n

abbrev pub w_after : List ℕ → ℕ → List ℕ
w_after before n = before ++ w_text n

abbrev pub sp_after : List ℕ → ℕ → List ℕ
sp_after before n = before ++ sp_text n

abbrev pub hex_after : List ℕ → ℕ → List ℕ
hex_after before n = before ++ hex n

---- Registers

abbrev pub one : List ℕ → ℕ → List ℕ
one name rn = name ++ x_after (codes " ") rn

abbrev pub two_more : (rn rm : ℕ) → List ℕ
two_more rn rm = x_after (codes ", ") rn ++ x_after (codes ", ") rm

abbrev pub three : List ℕ → (rd rn rm : ℕ) → List ℕ
three name rd rn rm = one name rd ++ two_more rn rm

abbrev pub four : List ℕ → (rd rn rm ra : ℕ) → List ℕ
four name rd rn rm ra = three name rd rn rm ++ x_after (codes ", ") ra

abbrev pub shifted : List ℕ → (rd rn rm : ℕ) → Shift → ℕ → List ℕ
shifted name rd rn rm shift by = three name rd rn rm ++ shift_text shift by

abbrev pub chosen : List ℕ → (rd rn rm : ℕ) → Cond → List ℕ
chosen name rd rn rm cond = three name rd rn rm ++ (codes ", " ++ cond_text cond)

---- Numbers

abbrev pub number : List ℕ → ℕ → List ℕ
number name imm = name ++ hex_after (codes " #") imm

-- a register that may be SP, 12 bits, and whether they count 4096s
abbrev pub immediate : ℕ → ℕ → Bool → List ℕ
immediate rn imm high = sp_after (codes ", ") rn ++ (hex_after (codes ", #") imm ++ high_text high)

abbrev pub sp_immediate : List ℕ → (rd rn imm : ℕ) → Bool → List ℕ
sp_immediate name rd rn imm high = name ++ (sp_after (codes " ") rd ++ immediate rn imm high)

abbrev pub x_immediate : List ℕ → (rd rn imm : ℕ) → Bool → List ℕ
x_immediate name rd rn imm high = one name rd ++ immediate rn imm high

abbrev pub wide : List ℕ → (rd imm half : ℕ) → List ℕ
wide name rd imm half = one name rd ++ (hex_after (codes ", #") imm ++ half_text half)

---- Memory

-- at a register, so many bytes on
abbrev pub beside : ℕ → ℕ → List ℕ
beside rn bytes = sp_after (codes ", [") rn ++ (offset_text bytes ++ codes "]")

-- at the sum of two registers; what closes it says whether the second is scaled
abbrev pub summed : (rn rm : ℕ) → List ℕ → List ℕ
summed rn rm close = sp_after (codes ", [") rn ++ (x_after (codes ", ") rm ++ close)

abbrev pub x_beside : List ℕ → (rt rn bytes : ℕ) → List ℕ
x_beside name rt rn bytes = one name rt ++ beside rn bytes

abbrev pub w_beside : List ℕ → (rt rn bytes : ℕ) → List ℕ
w_beside name rt rn bytes = name ++ (w_after (codes " ") rt ++ beside rn bytes)

abbrev pub x_summed : List ℕ → (rt rn rm : ℕ) → List ℕ → List ℕ
x_summed name rt rn rm close = one name rt ++ summed rn rm close

abbrev pub w_summed : List ℕ → (rt rn rm : ℕ) → List ℕ
w_summed name rt rn rm = name ++ (w_after (codes " ") rt ++ summed rn rm (codes "]"))

---- Branches

abbrev pub branch : Told → List ℕ → (values to : ℕ) → List ℕ
branch told name values to = name ++ (codes " " ++ target_text told values to)

abbrev pub branch_if : Told → Cond → ℕ → List ℕ
branch_if told cond to = codes "b." ++ (cond_text cond ++ (codes " " ++ target_text told 0x80000 to))

abbrev pub branch_by : Told → List ℕ → (rt to : ℕ) → List ℕ
branch_by told name rt to = one name rt ++ (codes ", " ++ target_text told 0x80000 to)
