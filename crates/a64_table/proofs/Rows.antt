-- Each instruction with fields in range is what is read from its word, row by row.
use Rattle.std.proofs.Common.{◌≡◌, ℕ, ◌==◌, Bool, true, false, Some, refl, ap, ◌∙◌, arith}
use Rattle.std.proofs.lemmas.Bool.Decides.{nat_tests}
use Rattle.a64_table.specs.Table.{SelectCond, word_of, InRange, shift_number, cond_number, bit_number}
use Rattle.a64_table.specs.Decode.{bits, shift_of, cond_of, row_at, immediate_row, memory_row, branch_row, register_row, bitwise_row, sum_row, source_row, product_row}
use Rattle.a64_instr.specs.declared.instr.Shift.{Shift}
use Rattle.a64_instr.specs.declared.instr.Shift.TheVariants.{Lsl, Lsr, Asr}
use Rattle.a64_instr.specs.declared.instr.Cond.{Cond}
use Rattle.a64_instr.specs.declared.instr.Cond.TheVariants.{Eq, Ne, Hs, Lo, Mi, Pl, Vs, Vc, Hi, Ls, Ge, Lt, Gt, Le, Al}
use Rattle.a64_instr.specs.declared.instr.Instr.{Instr}
use Rattle.a64_instr.specs.declared.instr.Instr.TheVariants.{AddImm, SubImm, SubsImm, AddReg, SubReg, SubsReg, AndReg, BicReg, OrrReg, OrnReg, EorReg, AndsReg, Movn, Movz, Movk, Madd, Msub, Sdiv, Lslv, Lsrv, Asrv, Rorv, Csel, Csinc, Csneg, B, Bl, BCond, Cbz, Cbnz, Br, Blr, Ret, Ldr, Str, Ldrb, Strb, LdrReg, LdrRegScaled, StrReg, StrRegScaled, LdrbReg, StrbReg, Svc, Brk}

shift_again : (s : Shift) → shift_of (shift_number s) ≡ s
shift_again Lsl = refl
shift_again Lsr = refl
shift_again Asr = refl

cond_again : (c : Cond) → cond_of (cond_number c) ≡ c
cond_again Eq = refl
cond_again Ne = refl
cond_again Hs = refl
cond_again Lo = refl
cond_again Mi = refl
cond_again Pl = refl
cond_again Vs = refl
cond_again Vc = refl
cond_again Hi = refl
cond_again Ls = refl
cond_again Ge = refl
cond_again Lt = refl
cond_again Gt = refl
cond_again Le = refl
cond_again Al = refl

bit_again : (b : Bool) → (bit_number b == 1) ≡ b
bit_again true = refl
bit_again false = refl

-- the instruction's word is read as the instruction
abbrev Reads : Instr → Type 0
Reads i = InRange i → row_at (word_of i) ≡ Some i

add_imm : (rd rn imm : ℕ) (high : Bool) → Reads (AddImm rd rn imm high)
unfolding row_at immediate_row
add_imm rd rn imm high h = grind (arith, nat_tests, bit_again high)

sub_imm : (rd rn imm : ℕ) (high : Bool) → Reads (SubImm rd rn imm high)
unfolding row_at immediate_row
sub_imm rd rn imm high h = grind (arith, nat_tests, bit_again high)

subs_imm : (rd rn imm : ℕ) (high : Bool) → Reads (SubsImm rd rn imm high)
unfolding row_at immediate_row
subs_imm rd rn imm high h = grind (arith, nat_tests, bit_again high)

add_reg : (rd rn rm by : ℕ) (shift : Shift) → Reads (AddReg rd rn rm shift by)
unfolding row_at register_row sum_row
add_reg rd rn rm by shift h = grind (arith, nat_tests, shift_again shift)

sub_reg : (rd rn rm by : ℕ) (shift : Shift) → Reads (SubReg rd rn rm shift by)
unfolding row_at register_row sum_row
sub_reg rd rn rm by shift h = grind (arith, nat_tests, shift_again shift)

subs_reg : (rd rn rm by : ℕ) (shift : Shift) → Reads (SubsReg rd rn rm shift by)
unfolding row_at register_row sum_row
subs_reg rd rn rm by shift h = grind (arith, nat_tests, shift_again shift)

and_reg : (rd rn rm by : ℕ) (shift : Shift) → Reads (AndReg rd rn rm shift by)
unfolding row_at register_row bitwise_row
and_reg rd rn rm by shift h = grind (arith, nat_tests, shift_again shift)

bic_reg : (rd rn rm by : ℕ) (shift : Shift) → Reads (BicReg rd rn rm shift by)
unfolding row_at register_row bitwise_row
bic_reg rd rn rm by shift h = grind (arith, nat_tests, shift_again shift)

orr_reg : (rd rn rm by : ℕ) (shift : Shift) → Reads (OrrReg rd rn rm shift by)
unfolding row_at register_row bitwise_row
orr_reg rd rn rm by shift h = grind (arith, nat_tests, shift_again shift)

orn_reg : (rd rn rm by : ℕ) (shift : Shift) → Reads (OrnReg rd rn rm shift by)
unfolding row_at register_row bitwise_row
orn_reg rd rn rm by shift h = grind (arith, nat_tests, shift_again shift)

eor_reg : (rd rn rm by : ℕ) (shift : Shift) → Reads (EorReg rd rn rm shift by)
unfolding row_at register_row bitwise_row
eor_reg rd rn rm by shift h = grind (arith, nat_tests, shift_again shift)

ands_reg : (rd rn rm by : ℕ) (shift : Shift) → Reads (AndsReg rd rn rm shift by)
unfolding row_at register_row bitwise_row
ands_reg rd rn rm by shift h = grind (arith, nat_tests, shift_again shift)

movn : (rd imm half : ℕ) → Reads (Movn rd imm half)
unfolding row_at immediate_row
movn rd imm half h = grind (arith, nat_tests)

movz : (rd imm half : ℕ) → Reads (Movz rd imm half)
unfolding row_at immediate_row
movz rd imm half h = grind (arith, nat_tests)

movk : (rd imm half : ℕ) → Reads (Movk rd imm half)
unfolding row_at immediate_row
movk rd imm half h = grind (arith, nat_tests)

madd : (rd rn rm ra : ℕ) → Reads (Madd rd rn rm ra)
unfolding row_at register_row product_row
madd rd rn rm ra h = grind (arith, nat_tests)

msub : (rd rn rm ra : ℕ) → Reads (Msub rd rn rm ra)
unfolding row_at register_row product_row
msub rd rn rm ra h = grind (arith, nat_tests)

sdiv : (rd rn rm : ℕ) → Reads (Sdiv rd rn rm)
unfolding row_at register_row source_row
sdiv rd rn rm h = grind (arith, nat_tests)

lslv : (rd rn rm : ℕ) → Reads (Lslv rd rn rm)
unfolding row_at register_row source_row
lslv rd rn rm h = grind (arith, nat_tests)

lsrv : (rd rn rm : ℕ) → Reads (Lsrv rd rn rm)
unfolding row_at register_row source_row
lsrv rd rn rm h = grind (arith, nat_tests)

asrv : (rd rn rm : ℕ) → Reads (Asrv rd rn rm)
unfolding row_at register_row source_row
asrv rd rn rm h = grind (arith, nat_tests)

rorv : (rd rn rm : ℕ) → Reads (Rorv rd rn rm)
unfolding row_at register_row source_row
rorv rd rn rm h = grind (arith, nat_tests)

csel : (rd rn rm : ℕ) (c : Cond) → Reads (Csel rd rn rm c)
unfolding row_at register_row source_row
csel rd rn rm c h =
    let number : bits (word_of (Csel rd rn rm c)) SelectCond ≡ cond_number c = omega arith in
    grind (arith, nat_tests, ap cond_of number ∙ cond_again c)

csinc : (rd rn rm : ℕ) (c : Cond) → Reads (Csinc rd rn rm c)
unfolding row_at register_row source_row
csinc rd rn rm c h =
    let number : bits (word_of (Csinc rd rn rm c)) SelectCond ≡ cond_number c = omega arith in
    grind (arith, nat_tests, ap cond_of number ∙ cond_again c)

csneg : (rd rn rm : ℕ) (c : Cond) → Reads (Csneg rd rn rm c)
unfolding row_at register_row source_row
csneg rd rn rm c h =
    let number : bits (word_of (Csneg rd rn rm c)) SelectCond ≡ cond_number c = omega arith in
    grind (arith, nat_tests, ap cond_of number ∙ cond_again c)

b : (to : ℕ) → Reads (B to)
unfolding row_at branch_row
b to h = grind (arith, nat_tests)

bl : (to : ℕ) → Reads (Bl to)
unfolding row_at branch_row
bl to h = grind (arith, nat_tests)

b_cond : (to : ℕ) (c : Cond) → Reads (BCond to c)
unfolding row_at branch_row
b_cond to c h = grind (arith, nat_tests, cond_again c)

cbz : (rt to : ℕ) → Reads (Cbz rt to)
unfolding row_at branch_row
cbz rt to h = grind (arith, nat_tests)

cbnz : (rt to : ℕ) → Reads (Cbnz rt to)
unfolding row_at branch_row
cbnz rt to h = grind (arith, nat_tests)

br : (rn : ℕ) → Reads (Br rn)
unfolding row_at branch_row
br rn h = grind (arith, nat_tests)

blr : (rn : ℕ) → Reads (Blr rn)
unfolding row_at branch_row
blr rn h = grind (arith, nat_tests)

ret : (rn : ℕ) → Reads (Ret rn)
unfolding row_at branch_row
ret rn h = grind (arith, nat_tests)

ldr : (rt rn imm : ℕ) → Reads (Ldr rt rn imm)
unfolding row_at memory_row
ldr rt rn imm h = grind (arith, nat_tests)

str : (rt rn imm : ℕ) → Reads (Str rt rn imm)
unfolding row_at memory_row
str rt rn imm h = grind (arith, nat_tests)

ldrb : (rt rn imm : ℕ) → Reads (Ldrb rt rn imm)
unfolding row_at memory_row
ldrb rt rn imm h = grind (arith, nat_tests)

strb : (rt rn imm : ℕ) → Reads (Strb rt rn imm)
unfolding row_at memory_row
strb rt rn imm h = grind (arith, nat_tests)

ldr_reg : (rt rn rm : ℕ) → Reads (LdrReg rt rn rm)
unfolding row_at memory_row
ldr_reg rt rn rm h = grind (arith, nat_tests)

ldr_reg_scaled : (rt rn rm : ℕ) → Reads (LdrRegScaled rt rn rm)
unfolding row_at memory_row
ldr_reg_scaled rt rn rm h = grind (arith, nat_tests)

str_reg : (rt rn rm : ℕ) → Reads (StrReg rt rn rm)
unfolding row_at memory_row
str_reg rt rn rm h = grind (arith, nat_tests)

str_reg_scaled : (rt rn rm : ℕ) → Reads (StrRegScaled rt rn rm)
unfolding row_at memory_row
str_reg_scaled rt rn rm h = grind (arith, nat_tests)

ldrb_reg : (rt rn rm : ℕ) → Reads (LdrbReg rt rn rm)
unfolding row_at memory_row
ldrb_reg rt rn rm h = grind (arith, nat_tests)

strb_reg : (rt rn rm : ℕ) → Reads (StrbReg rt rn rm)
unfolding row_at memory_row
strb_reg rt rn rm h = grind (arith, nat_tests)

svc : (imm : ℕ) → Reads (Svc imm)
unfolding row_at branch_row
svc imm h = grind (arith, nat_tests)

brk : (imm : ℕ) → Reads (Brk imm)
unfolding row_at branch_row
brk imm h = grind (arith, nat_tests)

-- the word of each instruction with fields in range is read as that instruction
pub reads : (i : Instr) → InRange i → row_at (word_of i) ≡ Some i
reads (AddImm rd rn imm high) = add_imm rd rn imm high
reads (SubImm rd rn imm high) = sub_imm rd rn imm high
reads (SubsImm rd rn imm high) = subs_imm rd rn imm high
reads (AddReg rd rn rm shift by) = add_reg rd rn rm by shift
reads (SubReg rd rn rm shift by) = sub_reg rd rn rm by shift
reads (SubsReg rd rn rm shift by) = subs_reg rd rn rm by shift
reads (AndReg rd rn rm shift by) = and_reg rd rn rm by shift
reads (BicReg rd rn rm shift by) = bic_reg rd rn rm by shift
reads (OrrReg rd rn rm shift by) = orr_reg rd rn rm by shift
reads (OrnReg rd rn rm shift by) = orn_reg rd rn rm by shift
reads (EorReg rd rn rm shift by) = eor_reg rd rn rm by shift
reads (AndsReg rd rn rm shift by) = ands_reg rd rn rm by shift
reads (Movn rd imm half) = movn rd imm half
reads (Movz rd imm half) = movz rd imm half
reads (Movk rd imm half) = movk rd imm half
reads (Madd rd rn rm ra) = madd rd rn rm ra
reads (Msub rd rn rm ra) = msub rd rn rm ra
reads (Sdiv rd rn rm) = sdiv rd rn rm
reads (Lslv rd rn rm) = lslv rd rn rm
reads (Lsrv rd rn rm) = lsrv rd rn rm
reads (Asrv rd rn rm) = asrv rd rn rm
reads (Rorv rd rn rm) = rorv rd rn rm
reads (Csel rd rn rm c) = csel rd rn rm c
reads (Csinc rd rn rm c) = csinc rd rn rm c
reads (Csneg rd rn rm c) = csneg rd rn rm c
reads (B to) = b to
reads (Bl to) = bl to
reads (BCond to c) = b_cond to c
reads (Cbz rt to) = cbz rt to
reads (Cbnz rt to) = cbnz rt to
reads (Br rn) = br rn
reads (Blr rn) = blr rn
reads (Ret rn) = ret rn
reads (Ldr rt rn imm) = ldr rt rn imm
reads (Str rt rn imm) = str rt rn imm
reads (Ldrb rt rn imm) = ldrb rt rn imm
reads (Strb rt rn imm) = strb rt rn imm
reads (LdrReg rt rn rm) = ldr_reg rt rn rm
reads (LdrRegScaled rt rn rm) = ldr_reg_scaled rt rn rm
reads (StrReg rt rn rm) = str_reg rt rn rm
reads (StrRegScaled rt rn rm) = str_reg_scaled rt rn rm
reads (LdrbReg rt rn rm) = ldrb_reg rt rn rm
reads (StrbReg rt rn rm) = strb_reg rt rn rm
reads (Svc imm) = svc imm
reads (Brk imm) = brk imm
