-- The A64 table: a row for each instruction, with its base and its fields at their places
-- (Arm Architecture Reference Manual, A64 base instructions, 64-bit forms).
use Rattle.std.specs.Prelude.{ℕ, ◌+◌, ◌*◌, ◌^◌, ◌<◌, Bool, true, false, List, [], ◌∷◌}
use Rattle.a64_instr.specs.declared.instr.Shift.{Shift}
use Rattle.a64_instr.specs.declared.instr.Shift.TheVariants.{Lsl, Lsr, Asr}
use Rattle.a64_instr.specs.declared.instr.Cond.{Cond}
use Rattle.a64_instr.specs.declared.instr.Cond.TheVariants.{Eq, Ne, Hs, Lo, Mi, Pl, Vs, Vc, Hi, Ls, Ge, Lt, Gt, Le, Al}
use Rattle.a64_instr.specs.declared.instr.Instr.{Instr}
use Rattle.a64_instr.specs.declared.instr.Instr.TheVariants.{AddImm, SubImm, SubsImm, AddReg, SubReg, SubsReg, AndReg, BicReg, OrrReg, OrnReg, EorReg, AndsReg, Movn, Movz, Movk, Madd, Msub, Sdiv, Lslv, Lsrv, Asrv, Rorv, Csel, Csinc, Csneg, B, Bl, BCond, Cbz, Cbnz, Br, Blr, Ret, Ldr, Str, Ldrb, Strb, LdrReg, LdrRegScaled, StrReg, StrRegScaled, LdrbReg, StrbReg, Svc, Brk}

-- a place in a word: its lowest bit, and how many bits it has
pub record Place : Type 0 where
  pub low : ℕ
  pub width : ℕ

abbrev pub place : ℕ → ℕ → Place
place low width = record { low = low; width = width }

-- bits 4:0, the register that is written or stored (Rd, Rt)
abbrev pub Rd : Place
Rd = place 0 5

-- bits 9:5, the first operand, or the address
abbrev pub Rn : Place
Rn = place 5 5

-- bits 20:16, the second operand
abbrev pub Rm : Place
Rm = place 16 5

-- bits 14:10, what a product is added to or taken from
abbrev pub Ra : Place
Ra = place 10 5

-- bits 21:10, an operand or an offset
abbrev pub Imm12 : Place
Imm12 = place 10 12

-- bit 22, whether the 12 bits count 4096s
abbrev pub Sh : Place
Sh = place 22 1

-- bits 15:10, by how much the second operand is shifted
abbrev pub Imm6 : Place
Imm6 = place 10 6

-- bits 23:22, how the second operand is shifted
abbrev pub ShiftType : Place
ShiftType = place 22 2

-- bits 20:5, a number of 16 bits
abbrev pub Imm16 : Place
Imm16 = place 5 16

-- bits 22:21, which half word of the register the 16 bits are
abbrev pub Hw : Place
Hw = place 21 2

-- bits 23:5, how far a conditional branch goes, in words
abbrev pub Imm19 : Place
Imm19 = place 5 19

-- bits 25:0, how far a branch goes, in words
abbrev pub Imm26 : Place
Imm26 = place 0 26

-- bits 15:12, the condition of a select
abbrev pub SelectCond : Place
SelectCond = place 12 4

-- bits 3:0, the condition of a branch
abbrev pub BranchCond : Place
BranchCond = place 0 4

-- the number of a shift type; 3 is none of them
abbrev pub shift_number : Shift → ℕ
shift_number Lsl = 0
shift_number Lsr = 1
shift_number Asr = 2

-- the number of a condition; 15 is none of them
abbrev pub cond_number : Cond → ℕ
cond_number Eq = 0
cond_number Ne = 1
cond_number Hs = 2
cond_number Lo = 3
cond_number Mi = 4
cond_number Pl = 5
cond_number Vs = 6
cond_number Vc = 7
cond_number Hi = 8
cond_number Ls = 9
cond_number Ge = 10
cond_number Lt = 11
cond_number Gt = 12
cond_number Le = 13
cond_number Al = 14

-- a bit's number
abbrev pub bit_number : Bool → ℕ
bit_number false = 0
bit_number true = 1

-- a field: a number at a place
pub record Field : Type 0 where
  pub at : Place
  pub value : ℕ

infix 60 ◌is◌
abbrev pub ◌is◌ : Place → ℕ → Field
at is value = record { at = at; value = value }

-- a row, its free bits filled in: the base has the bits that are fixed, and 0 at each field
pub record Row : Type 0 where
  pub base : ℕ
  pub fields : List Field

infix 10 ◌with◌
abbrev pub ◌with◌ : ℕ → List Field → Row
base with fields = record { base = base; fields = fields }

-- THE TABLE: the row of each instruction
abbrev pub row_of : Instr → Row
row_of (AddImm rd rn imm high) = 0x91000000 with (Rd is rd) ∷ (Rn is rn) ∷ (Imm12 is imm) ∷ (Sh is bit_number high) ∷ []
row_of (SubImm rd rn imm high) = 0xD1000000 with (Rd is rd) ∷ (Rn is rn) ∷ (Imm12 is imm) ∷ (Sh is bit_number high) ∷ []
row_of (SubsImm rd rn imm high) = 0xF1000000 with (Rd is rd) ∷ (Rn is rn) ∷ (Imm12 is imm) ∷ (Sh is bit_number high) ∷ []
row_of (AddReg rd rn rm shift by) = 0x8B000000 with (Rd is rd) ∷ (Rn is rn) ∷ (Imm6 is by) ∷ (Rm is rm) ∷ (ShiftType is shift_number shift) ∷ []
row_of (SubReg rd rn rm shift by) = 0xCB000000 with (Rd is rd) ∷ (Rn is rn) ∷ (Imm6 is by) ∷ (Rm is rm) ∷ (ShiftType is shift_number shift) ∷ []
row_of (SubsReg rd rn rm shift by) = 0xEB000000 with (Rd is rd) ∷ (Rn is rn) ∷ (Imm6 is by) ∷ (Rm is rm) ∷ (ShiftType is shift_number shift) ∷ []
row_of (AndReg rd rn rm shift by) = 0x8A000000 with (Rd is rd) ∷ (Rn is rn) ∷ (Imm6 is by) ∷ (Rm is rm) ∷ (ShiftType is shift_number shift) ∷ []
row_of (BicReg rd rn rm shift by) = 0x8A200000 with (Rd is rd) ∷ (Rn is rn) ∷ (Imm6 is by) ∷ (Rm is rm) ∷ (ShiftType is shift_number shift) ∷ []
row_of (OrrReg rd rn rm shift by) = 0xAA000000 with (Rd is rd) ∷ (Rn is rn) ∷ (Imm6 is by) ∷ (Rm is rm) ∷ (ShiftType is shift_number shift) ∷ []
row_of (OrnReg rd rn rm shift by) = 0xAA200000 with (Rd is rd) ∷ (Rn is rn) ∷ (Imm6 is by) ∷ (Rm is rm) ∷ (ShiftType is shift_number shift) ∷ []
row_of (EorReg rd rn rm shift by) = 0xCA000000 with (Rd is rd) ∷ (Rn is rn) ∷ (Imm6 is by) ∷ (Rm is rm) ∷ (ShiftType is shift_number shift) ∷ []
row_of (AndsReg rd rn rm shift by) = 0xEA000000 with (Rd is rd) ∷ (Rn is rn) ∷ (Imm6 is by) ∷ (Rm is rm) ∷ (ShiftType is shift_number shift) ∷ []
row_of (Movn rd imm half) = 0x92800000 with (Rd is rd) ∷ (Imm16 is imm) ∷ (Hw is half) ∷ []
row_of (Movz rd imm half) = 0xD2800000 with (Rd is rd) ∷ (Imm16 is imm) ∷ (Hw is half) ∷ []
row_of (Movk rd imm half) = 0xF2800000 with (Rd is rd) ∷ (Imm16 is imm) ∷ (Hw is half) ∷ []
row_of (Madd rd rn rm ra) = 0x9B000000 with (Rd is rd) ∷ (Rn is rn) ∷ (Rm is rm) ∷ (Ra is ra) ∷ []
row_of (Msub rd rn rm ra) = 0x9B008000 with (Rd is rd) ∷ (Rn is rn) ∷ (Rm is rm) ∷ (Ra is ra) ∷ []
row_of (Sdiv rd rn rm) = 0x9AC00C00 with (Rd is rd) ∷ (Rn is rn) ∷ (Rm is rm) ∷ []
row_of (Lslv rd rn rm) = 0x9AC02000 with (Rd is rd) ∷ (Rn is rn) ∷ (Rm is rm) ∷ []
row_of (Lsrv rd rn rm) = 0x9AC02400 with (Rd is rd) ∷ (Rn is rn) ∷ (Rm is rm) ∷ []
row_of (Asrv rd rn rm) = 0x9AC02800 with (Rd is rd) ∷ (Rn is rn) ∷ (Rm is rm) ∷ []
row_of (Rorv rd rn rm) = 0x9AC02C00 with (Rd is rd) ∷ (Rn is rn) ∷ (Rm is rm) ∷ []
row_of (Csel rd rn rm cond) = 0x9A800000 with (Rd is rd) ∷ (Rn is rn) ∷ (SelectCond is cond_number cond) ∷ (Rm is rm) ∷ []
row_of (Csinc rd rn rm cond) = 0x9A800400 with (Rd is rd) ∷ (Rn is rn) ∷ (SelectCond is cond_number cond) ∷ (Rm is rm) ∷ []
row_of (Csneg rd rn rm cond) = 0xDA800400 with (Rd is rd) ∷ (Rn is rn) ∷ (SelectCond is cond_number cond) ∷ (Rm is rm) ∷ []
row_of (B to) = 0x14000000 with (Imm26 is to) ∷ []
row_of (Bl to) = 0x94000000 with (Imm26 is to) ∷ []
row_of (BCond to cond) = 0x54000000 with (Imm19 is to) ∷ (BranchCond is cond_number cond) ∷ []
row_of (Cbz rt to) = 0xB4000000 with (Rd is rt) ∷ (Imm19 is to) ∷ []
row_of (Cbnz rt to) = 0xB5000000 with (Rd is rt) ∷ (Imm19 is to) ∷ []
row_of (Br rn) = 0xD61F0000 with (Rn is rn) ∷ []
row_of (Blr rn) = 0xD63F0000 with (Rn is rn) ∷ []
row_of (Ret rn) = 0xD65F0000 with (Rn is rn) ∷ []
row_of (Ldr rt rn imm) = 0xF9400000 with (Rd is rt) ∷ (Rn is rn) ∷ (Imm12 is imm) ∷ []
row_of (Str rt rn imm) = 0xF9000000 with (Rd is rt) ∷ (Rn is rn) ∷ (Imm12 is imm) ∷ []
row_of (Ldrb rt rn imm) = 0x39400000 with (Rd is rt) ∷ (Rn is rn) ∷ (Imm12 is imm) ∷ []
row_of (Strb rt rn imm) = 0x39000000 with (Rd is rt) ∷ (Rn is rn) ∷ (Imm12 is imm) ∷ []
row_of (LdrReg rt rn rm) = 0xF8606800 with (Rd is rt) ∷ (Rn is rn) ∷ (Rm is rm) ∷ []
row_of (LdrRegScaled rt rn rm) = 0xF8607800 with (Rd is rt) ∷ (Rn is rn) ∷ (Rm is rm) ∷ []
row_of (StrReg rt rn rm) = 0xF8206800 with (Rd is rt) ∷ (Rn is rn) ∷ (Rm is rm) ∷ []
row_of (StrRegScaled rt rn rm) = 0xF8207800 with (Rd is rt) ∷ (Rn is rn) ∷ (Rm is rm) ∷ []
row_of (LdrbReg rt rn rm) = 0x38606800 with (Rd is rt) ∷ (Rn is rn) ∷ (Rm is rm) ∷ []
row_of (StrbReg rt rn rm) = 0x38206800 with (Rd is rt) ∷ (Rn is rn) ∷ (Rm is rm) ∷ []
row_of (Svc imm) = 0xD4000001 with (Imm16 is imm) ∷ []
row_of (Brk imm) = 0xD4200000 with (Imm16 is imm) ∷ []

-- what the fields add to the base
abbrev pub filled : List Field → ℕ
filled [] = 0
filled (field ∷ fields) = field.value * 2 ^ field.at.low + filled fields

-- each field's number has no more bits than its place
abbrev pub AllFit : List Field → Type 0
AllFit [] = Unit {0}
AllFit (field ∷ fields) = (field.value < 2 ^ field.at.width) × AllFit fields

-- the word of an instruction: its row's base, with each field at its place
abbrev pub word_of : Instr → ℕ
word_of instr = (row_of instr).base + filled (row_of instr).fields

-- the fields of an instruction fit their places
abbrev pub InRange : Instr → Type 0
InRange instr = AllFit (row_of instr).fields
