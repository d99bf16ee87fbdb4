-- What is read from a word has its fields in range.
use Rattle.std.proofs.Common.{◌≡◌, ℕ, ◌%◌, ◌^◌, ◌<◌, Bool, true, false, Option, Some, None, if◌then◌else◌, subst, arith}
use Rattle.a64_table.specs.Table.{InRange, shift_number, cond_number, bit_number}
use Rattle.a64_table.specs.Decode.{row_at, immediate_row, branch_row, memory_row, bitwise_row, sum_row, source_row, product_row, register_row}
use Rattle.a64_instr.specs.declared.instr.Shift.{Shift}
use Rattle.a64_instr.specs.declared.instr.Shift.TheVariants.{Lsl, Lsr, Asr}
use Rattle.a64_instr.specs.declared.instr.Cond.{Cond}
use Rattle.a64_instr.specs.declared.instr.Cond.TheVariants.{Eq, Ne, Hs, Lo, Mi, Pl, Vs, Vc, Hi, Ls, Ge, Lt, Gt, Le, Al}
use Rattle.a64_instr.specs.declared.instr.Instr.{Instr}

-- what is found has its fields in range
pub record Fits (found : Option Instr) : Type 0 where
  pub by : (i : Instr) → found ≡ Some i → InRange i

none : Fits None
none = record { by = λ i e. cc }

some : (i : Instr) → InRange i → Fits (Some i)
some i h = record { by = λ j e. let same : i ≡ j = cc in subst InRange same h }

either : (test : Bool) (a b : Option Instr) → Fits a → Fits b → Fits (if test then a else b)
either true a b h k = h
either false a b h k = k

bit : (b : Bool) → bit_number b < 2 ^ 1
bit true = omega arith
bit false = omega arith

shift : (s : Shift) → shift_number s < 2 ^ 2
shift Lsl = omega arith
shift Lsr = omega arith
shift Asr = omega arith

condition : (c : Cond) → cond_number c < 2 ^ 4
condition Eq = omega arith
condition Ne = omega arith
condition Hs = omega arith
condition Lo = omega arith
condition Mi = omega arith
condition Pl = omega arith
condition Vs = omega arith
condition Vc = omega arith
condition Hi = omega arith
condition Ls = omega arith
condition Ge = omega arith
condition Lt = omega arith
condition Gt = omega arith
condition Le = omega arith
condition Al = omega arith

bits_2 : (n : ℕ) → n % 2 ^ 2 < 2 ^ 2
bits_2 n = omega arith

bits_5 : (n : ℕ) → n % 2 ^ 5 < 2 ^ 5
bits_5 n = omega arith

bits_6 : (n : ℕ) → n % 2 ^ 6 < 2 ^ 6
bits_6 n = omega arith

bits_12 : (n : ℕ) → n % 2 ^ 12 < 2 ^ 12
bits_12 n = omega arith

bits_16 : (n : ℕ) → n % 2 ^ 16 < 2 ^ 16
bits_16 n = omega arith

bits_19 : (n : ℕ) → n % 2 ^ 19 < 2 ^ 19
bits_19 n = omega arith

bits_26 : (n : ℕ) → n % 2 ^ 26 < 2 ^ 26
bits_26 n = omega arith

ruleset fields = (none, some, either, bit, shift, condition, bits_2, bits_5, bits_6, bits_12, bits_16, bits_19, bits_26)

immediate : (w : ℕ) → Fits (immediate_row w)
unfolding immediate_row
immediate w = search fields depth 60

branch : (w : ℕ) → Fits (branch_row w)
unfolding branch_row
branch w = search fields depth 60

memory : (w : ℕ) → Fits (memory_row w)
unfolding memory_row
memory w = search fields depth 60

bitwise : (w : ℕ) → Fits (bitwise_row w)
unfolding bitwise_row
bitwise w = search fields depth 60

sum : (w : ℕ) → Fits (sum_row w)
unfolding sum_row
sum w = search fields depth 60

source : (w : ℕ) → Fits (source_row w)
unfolding source_row
source w = search fields depth 60

product : (w : ℕ) → Fits (product_row w)
unfolding product_row
product w = search fields depth 60

register : (w : ℕ) → Fits (register_row w)
unfolding register_row
register w = search (fields, bitwise, sum, source, product) depth 60

pub row_fits : (w : ℕ) → Fits (row_at w)
unfolding row_at
row_fits w = search (fields, memory, register, immediate, branch) depth 60
