-- The instruction of a word: the one row that the word's opcode bits leave, with its fields read
-- at their places, where that instruction's word is this word. (The groups by bits 28:25 are those
-- of the Arm Architecture Reference Manual's A64 encoding index.)
use Rattle.std.specs.Prelude.{ℕ, ◌/◌, ◌%◌, ◌^◌, ◌==◌, Option, Some, None, List, [], ◌∷◌, if◌then◌else◌, get_or}
use Rattle.a64_table.specs.Table.{Place, place, Rd, Rn, Rm, Ra, Imm12, Sh, Imm6, ShiftType, Imm16, Hw, Imm19, Imm26, SelectCond, BranchCond, word_of}
use Rattle.a64_instr.specs.declared.instr.Shift.{Shift}
use Rattle.a64_instr.specs.declared.instr.Shift.TheVariants.{Lsl, Lsr, Asr}
use Rattle.a64_instr.specs.declared.instr.Cond.{Cond}
use Rattle.a64_instr.specs.declared.instr.Cond.TheVariants.{Eq, Ne, Hs, Lo, Mi, Pl, Vs, Vc, Hi, Ls, Ge, Lt, Gt, Le, Al}
use Rattle.a64_instr.specs.declared.instr.Instr.{Instr}
use Rattle.a64_instr.specs.declared.instr.Instr.TheVariants.{AddImm, SubImm, SubsImm, AddReg, SubReg, SubsReg, AndReg, BicReg, OrrReg, OrnReg, EorReg, AndsReg, Movn, Movz, Movk, Madd, Msub, Sdiv, Lslv, Lsrv, Asrv, Rorv, Csel, Csinc, Csneg, B, Bl, BCond, Cbz, Cbnz, Br, Blr, Ret, Ldr, Str, Ldrb, Strb, LdrReg, LdrRegScaled, StrReg, StrRegScaled, LdrbReg, StrbReg, Svc, Brk}

-- the number at a place of a word
abbrev pub bits : ℕ → Place → ℕ
bits word at = word / 2 ^ at.low % 2 ^ at.width

-- the shift type with a number; 3, which is none's, gives ASR, whose word is another
abbrev pub shift_of : ℕ → Shift
shift_of n = get_or (Lsl ∷ Lsr ∷ Asr ∷ []) n Asr

-- the condition with a number; 15, which is none's, gives AL, whose word is another
abbrev pub cond_of : ℕ → Cond
cond_of n = get_or (Eq ∷ Ne ∷ Hs ∷ Lo ∷ Mi ∷ Pl ∷ Vs ∷ Vc ∷ Hi ∷ Ls ∷ Ge ∷ Lt ∷ Gt ∷ Le ∷ Al ∷ []) n Al

-- what stands beside a number in a list
abbrev pub beside : ℕ → List (ℕ × Option Instr) → Option Instr
beside n [] = None
beside n (entry ∷ entries) = if n == entry.0 then entry.1 else beside n entries

-- bits 28:25 are 100x: immediate operands
unfoldable pub immediate_row : ℕ → Option Instr
immediate_row w = beside (w / 2 ^ 23) (
    (0x122, Some (AddImm (bits w Rd) (bits w Rn) (bits w Imm12) (bits w Sh == 1))) ∷
    (0x1A2, Some (SubImm (bits w Rd) (bits w Rn) (bits w Imm12) (bits w Sh == 1))) ∷
    (0x1E2, Some (SubsImm (bits w Rd) (bits w Rn) (bits w Imm12) (bits w Sh == 1))) ∷
    (0x125, Some (Movn (bits w Rd) (bits w Imm16) (bits w Hw))) ∷
    (0x1A5, Some (Movz (bits w Rd) (bits w Imm16) (bits w Hw))) ∷
    (0x1E5, Some (Movk (bits w Rd) (bits w Imm16) (bits w Hw))) ∷
    [])

-- bits 28:25 are 101x: branches, calls of the system and traps
unfoldable pub branch_row : ℕ → Option Instr
branch_row w = beside (w / 2 ^ 26) (
    (0x05, Some (B (bits w Imm26))) ∷
    (0x25, Some (Bl (bits w Imm26))) ∷
    (0x15, Some (BCond (bits w Imm19) (cond_of (bits w BranchCond)))) ∷ (
      0x2D,
      beside (w / 2 ^ 24) (
          (0xB4, Some (Cbz (bits w Rd) (bits w Imm19))) ∷
          (0xB5, Some (Cbnz (bits w Rd) (bits w Imm19))) ∷
          []),
    ) ∷ (
      0x35,
      beside (w / 2 ^ 21) (
          (0x6B0, Some (Br (bits w Rn))) ∷
          (0x6B1, Some (Blr (bits w Rn))) ∷
          (0x6B2, Some (Ret (bits w Rn))) ∷
          (0x6A0, Some (Svc (bits w Imm16))) ∷
          (0x6A1, Some (Brk (bits w Imm16))) ∷
          []),
    ) ∷
    [])

-- bits 28:25 are x1x0: loads and stores
unfoldable pub memory_row : ℕ → Option Instr
memory_row w = beside (w / 2 ^ 22) (
    (0x3E5, Some (Ldr (bits w Rd) (bits w Rn) (bits w Imm12))) ∷
    (0x3E4, Some (Str (bits w Rd) (bits w Rn) (bits w Imm12))) ∷
    (0x0E5, Some (Ldrb (bits w Rd) (bits w Rn) (bits w Imm12))) ∷
    (0x0E4, Some (Strb (bits w Rd) (bits w Rn) (bits w Imm12))) ∷ (
      0x3E1,
      beside (w / 2 ^ 12 % 2) (
          (0, Some (LdrReg (bits w Rd) (bits w Rn) (bits w Rm))) ∷
          (1, Some (LdrRegScaled (bits w Rd) (bits w Rn) (bits w Rm))) ∷
          []),
    ) ∷ (
      0x3E0,
      beside (w / 2 ^ 12 % 2) (
          (0, Some (StrReg (bits w Rd) (bits w Rn) (bits w Rm))) ∷
          (1, Some (StrRegScaled (bits w Rd) (bits w Rn) (bits w Rm))) ∷
          []),
    ) ∷
    (0x0E1, Some (LdrbReg (bits w Rd) (bits w Rn) (bits w Rm))) ∷
    (0x0E0, Some (StrbReg (bits w Rd) (bits w Rn) (bits w Rm))) ∷
    [])

-- bits 28:24 are 01010: bitwise, with a shifted register, complemented where bit 21 is 1
unfoldable pub bitwise_row : ℕ → Option Instr
bitwise_row w = beside (w / 2 ^ 24) ((
  0x8A,
  beside (w / 2 ^ 21 % 2) (
      (0, Some (AndReg (bits w Rd) (bits w Rn) (bits w Rm) (shift_of (bits w ShiftType)) (bits w Imm6))) ∷
      (1, Some (BicReg (bits w Rd) (bits w Rn) (bits w Rm) (shift_of (bits w ShiftType)) (bits w Imm6))) ∷
      []),
) ∷ (
  0xAA,
  beside (w / 2 ^ 21 % 2) (
      (0, Some (OrrReg (bits w Rd) (bits w Rn) (bits w Rm) (shift_of (bits w ShiftType)) (bits w Imm6))) ∷
      (1, Some (OrnReg (bits w Rd) (bits w Rn) (bits w Rm) (shift_of (bits w ShiftType)) (bits w Imm6))) ∷
      []),
) ∷
    (0xCA, Some (EorReg (bits w Rd) (bits w Rn) (bits w Rm) (shift_of (bits w ShiftType)) (bits w Imm6))) ∷
    (0xEA, Some (AndsReg (bits w Rd) (bits w Rn) (bits w Rm) (shift_of (bits w ShiftType)) (bits w Imm6))) ∷
    [])

-- bits 28:24 are 01011: sums and differences, with a shifted register
unfoldable pub sum_row : ℕ → Option Instr
sum_row w = beside (w / 2 ^ 24) (
    (0x8B, Some (AddReg (bits w Rd) (bits w Rn) (bits w Rm) (shift_of (bits w ShiftType)) (bits w Imm6))) ∷
    (0xCB, Some (SubReg (bits w Rd) (bits w Rn) (bits w Rm) (shift_of (bits w ShiftType)) (bits w Imm6))) ∷
    (0xEB, Some (SubsReg (bits w Rd) (bits w Rn) (bits w Rm) (shift_of (bits w ShiftType)) (bits w Imm6))) ∷
    [])

-- bits 28:24 are 11010: divisions and shifts (bits 23:21 are 110) and selects (bits 23:21 are 100)
unfoldable pub source_row : ℕ → Option Instr
source_row w = beside (w / 2 ^ 21) ((
  0x4D6,
  beside (w / 2 ^ 10 % 2 ^ 6) (
      (0x03, Some (Sdiv (bits w Rd) (bits w Rn) (bits w Rm))) ∷
      (0x08, Some (Lslv (bits w Rd) (bits w Rn) (bits w Rm))) ∷
      (0x09, Some (Lsrv (bits w Rd) (bits w Rn) (bits w Rm))) ∷
      (0x0A, Some (Asrv (bits w Rd) (bits w Rn) (bits w Rm))) ∷
      (0x0B, Some (Rorv (bits w Rd) (bits w Rn) (bits w Rm))) ∷
      []),
) ∷ (
  0x4D4,
  beside (w / 2 ^ 10 % 2) (
      (0, Some (Csel (bits w Rd) (bits w Rn) (bits w Rm) (cond_of (bits w SelectCond)))) ∷
      (1, Some (Csinc (bits w Rd) (bits w Rn) (bits w Rm) (cond_of (bits w SelectCond)))) ∷
      []),
) ∷
    (0x6D4, Some (Csneg (bits w Rd) (bits w Rn) (bits w Rm) (cond_of (bits w SelectCond)))) ∷
    [])

-- bits 28:24 are 11011: products, added, or taken away where bit 15 is 1
unfoldable pub product_row : ℕ → Option Instr
product_row w = beside (w / 2 ^ 15 % 2) (
    (0, Some (Madd (bits w Rd) (bits w Rn) (bits w Rm) (bits w Ra))) ∷
    (1, Some (Msub (bits w Rd) (bits w Rn) (bits w Rm) (bits w Ra))) ∷
    [])

-- bits 28:25 are x101: register operands
unfoldable pub register_row : ℕ → Option Instr
register_row w = beside (w / 2 ^ 24 % 2 ^ 5) (
    (0x0A, bitwise_row w) ∷
    (0x0B, sum_row w) ∷
    (0x1A, source_row w) ∷
    (0x1B, product_row w) ∷
    [])

-- the only row that can have the word, with the word's fields
unfoldable pub row_at : ℕ → Option Instr
row_at w = beside (bits w (place 25 4)) (
    (0x4, memory_row w) ∷
    (0xC, memory_row w) ∷
    (0x5, register_row w) ∷
    (0xD, register_row w) ∷
    (0x8, immediate_row w) ∷
    (0x9, immediate_row w) ∷
    (0xA, branch_row w) ∷
    (0xB, branch_row w) ∷
    [])

-- the instruction, where its word is this word
abbrev pub exactly : ℕ → Option Instr → Option Instr
exactly w None = None
exactly w (Some instr) = if word_of instr == w then Some instr else None

-- the instruction of a word
unfoldable pub decode_of : ℕ → Option Instr
decode_of w = exactly w (row_at w)
