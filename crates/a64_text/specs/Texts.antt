-- The text of an instruction, as GNU objdump prints it without aliases: a line for each row of the table.
use Rattle.std.specs.Prelude.{ℕ, ◌*◌, ◌==◌, List, codes, if◌then◌else◌}
use Rattle.a64_instr.specs.declared.instr.Instr.{Instr}
use Rattle.a64_instr.specs.declared.instr.Instr.TheVariants.{AddImm, SubImm, SubsImm, AddReg, SubReg, SubsReg, AndReg, BicReg, OrrReg, OrnReg, EorReg, AndsReg, Movn, Movz, Movk, Madd, Msub, Sdiv, Lslv, Lsrv, Asrv, Rorv, Csel, Csinc, Csneg, B, Bl, BCond, Cbz, Cbnz, Br, Blr, Ret, Ldr, Str, Ldrb, Strb, LdrReg, LdrRegScaled, StrReg, StrRegScaled, LdrbReg, StrbReg, Svc, Brk}
use Rattle.a64_text.specs.declared.parts.Told.{Told}
use Rattle.a64_text.specs.Shapes.{one, three, four, shifted, chosen, number, sp_immediate, x_immediate, wide, x_beside, w_beside, x_summed, w_summed, branch, branch_if, branch_by}

-- to the register that a call leaves alone unless another is named
abbrev pub return_text : ℕ → List ℕ
return_text rn = if rn == 30 then codes "ret" else one (codes "ret") rn

abbrev pub instr_text : Told → Instr → List ℕ
instr_text told (AddImm rd rn imm high) = sp_immediate (codes "add") rd rn imm high
instr_text told (SubImm rd rn imm high) = sp_immediate (codes "sub") rd rn imm high
instr_text told (SubsImm rd rn imm high) = x_immediate (codes "subs") rd rn imm high
instr_text told (AddReg rd rn rm shift by) = shifted (codes "add") rd rn rm shift by
instr_text told (SubReg rd rn rm shift by) = shifted (codes "sub") rd rn rm shift by
instr_text told (SubsReg rd rn rm shift by) = shifted (codes "subs") rd rn rm shift by
instr_text told (AndReg rd rn rm shift by) = shifted (codes "and") rd rn rm shift by
instr_text told (BicReg rd rn rm shift by) = shifted (codes "bic") rd rn rm shift by
instr_text told (OrrReg rd rn rm shift by) = shifted (codes "orr") rd rn rm shift by
instr_text told (OrnReg rd rn rm shift by) = shifted (codes "orn") rd rn rm shift by
instr_text told (EorReg rd rn rm shift by) = shifted (codes "eor") rd rn rm shift by
instr_text told (AndsReg rd rn rm shift by) = shifted (codes "ands") rd rn rm shift by
instr_text told (Movn rd imm half) = wide (codes "movn") rd imm half
instr_text told (Movz rd imm half) = wide (codes "movz") rd imm half
instr_text told (Movk rd imm half) = wide (codes "movk") rd imm half
instr_text told (Madd rd rn rm ra) = four (codes "madd") rd rn rm ra
instr_text told (Msub rd rn rm ra) = four (codes "msub") rd rn rm ra
instr_text told (Sdiv rd rn rm) = three (codes "sdiv") rd rn rm
instr_text told (Lslv rd rn rm) = three (codes "lslv") rd rn rm
instr_text told (Lsrv rd rn rm) = three (codes "lsrv") rd rn rm
instr_text told (Asrv rd rn rm) = three (codes "asrv") rd rn rm
instr_text told (Rorv rd rn rm) = three (codes "rorv") rd rn rm
instr_text told (Csel rd rn rm cond) = chosen (codes "csel") rd rn rm cond
instr_text told (Csinc rd rn rm cond) = chosen (codes "csinc") rd rn rm cond
instr_text told (Csneg rd rn rm cond) = chosen (codes "csneg") rd rn rm cond
instr_text told (B to) = branch told (codes "b") 0x4000000 to
instr_text told (Bl to) = branch told (codes "bl") 0x4000000 to
instr_text told (BCond to cond) = branch_if told cond to
instr_text told (Cbz rt to) = branch_by told (codes "cbz") rt to
instr_text told (Cbnz rt to) = branch_by told (codes "cbnz") rt to
instr_text told (Br rn) = one (codes "br") rn
instr_text told (Blr rn) = one (codes "blr") rn
instr_text told (Ret rn) = return_text rn
instr_text told (Ldr rt rn imm) = x_beside (codes "ldr") rt rn (imm * 8)
instr_text told (Str rt rn imm) = x_beside (codes "str") rt rn (imm * 8)
instr_text told (Ldrb rt rn imm) = w_beside (codes "ldrb") rt rn imm
instr_text told (Strb rt rn imm) = w_beside (codes "strb") rt rn imm
instr_text told (LdrReg rt rn rm) = x_summed (codes "ldr") rt rn rm (codes "]")
instr_text told (LdrRegScaled rt rn rm) = x_summed (codes "ldr") rt rn rm (codes ", lsl #3]")
instr_text told (StrReg rt rn rm) = x_summed (codes "str") rt rn rm (codes "]")
instr_text told (StrRegScaled rt rn rm) = x_summed (codes "str") rt rn rm (codes ", lsl #3]")
instr_text told (LdrbReg rt rn rm) = w_summed (codes "ldrb") rt rn rm
instr_text told (StrbReg rt rn rm) = w_summed (codes "strb") rt rn rm
instr_text told (Svc imm) = number (codes "svc") imm
instr_text told (Brk imm) = number (codes "brk") imm
