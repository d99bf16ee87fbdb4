-- The groups of instructions that the machine carries out by one function each.
use Rattle.a64_instr.specs.declared.instr.Instr.{Instr}
use Rattle.a64_instr.specs.declared.instr.Instr.TheVariants.{AddImm, SubImm, SubsImm, AddReg, SubReg, SubsReg, AndReg, BicReg, OrrReg, OrnReg, EorReg, AndsReg, Movn, Movz, Movk, Madd, Msub, Sdiv, Lslv, Lsrv, Asrv, Rorv, Csel, Csinc, Csneg, B, Bl, BCond, Cbz, Cbnz, Br, Blr, Ret, Ldr, Str, Ldrb, Strb, LdrReg, LdrRegScaled, StrReg, StrRegScaled, LdrbReg, StrbReg, Svc, Brk}
use Rattle.a64_machine.specs.declared.groups.Group.{Group}
use Rattle.a64_machine.specs.declared.groups.Group.TheVariants.{SumImmediate, SumShifted, Bitwise, Move, Product, Shift, Select, Branch, Load, Store, Service}

-- the group of an instruction
abbrev pub group_of : Instr → Group
group_of (AddImm rd rn imm high) = SumImmediate
group_of (SubImm rd rn imm high) = SumImmediate
group_of (SubsImm rd rn imm high) = SumImmediate
group_of (AddReg rd rn rm shift by) = SumShifted
group_of (SubReg rd rn rm shift by) = SumShifted
group_of (SubsReg rd rn rm shift by) = SumShifted
group_of (AndReg rd rn rm shift by) = Bitwise
group_of (BicReg rd rn rm shift by) = Bitwise
group_of (OrrReg rd rn rm shift by) = Bitwise
group_of (OrnReg rd rn rm shift by) = Bitwise
group_of (EorReg rd rn rm shift by) = Bitwise
group_of (AndsReg rd rn rm shift by) = Bitwise
group_of (Movn rd imm half) = Move
group_of (Movz rd imm half) = Move
group_of (Movk rd imm half) = Move
group_of (Madd rd rn rm ra) = Product
group_of (Msub rd rn rm ra) = Product
group_of (Sdiv rd rn rm) = Product
group_of (Lslv rd rn rm) = Shift
group_of (Lsrv rd rn rm) = Shift
group_of (Asrv rd rn rm) = Shift
group_of (Rorv rd rn rm) = Shift
group_of (Csel rd rn rm cond) = Select
group_of (Csinc rd rn rm cond) = Select
group_of (Csneg rd rn rm cond) = Select
group_of (B to) = Branch
group_of (Bl to) = Branch
group_of (BCond to cond) = Branch
group_of (Cbz rt to) = Branch
group_of (Cbnz rt to) = Branch
group_of (Br rn) = Branch
group_of (Blr rn) = Branch
group_of (Ret rn) = Branch
group_of (Ldr rt rn imm) = Load
group_of (Str rt rn imm) = Store
group_of (Ldrb rt rn imm) = Load
group_of (Strb rt rn imm) = Store
group_of (LdrReg rt rn rm) = Load
group_of (LdrRegScaled rt rn rm) = Load
group_of (StrReg rt rn rm) = Store
group_of (StrRegScaled rt rn rm) = Store
group_of (LdrbReg rt rn rm) = Load
group_of (StrbReg rt rn rm) = Store
group_of (Svc imm) = Service
group_of (Brk imm) = Branch
