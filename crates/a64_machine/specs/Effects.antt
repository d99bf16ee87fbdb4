-- What each instruction does (Arm Architecture Reference Manual, A64 base instructions).
use Rattle.std.specs.Prelude.{ℕ, ◌*◌, Bool, not, ◌==◌, List, [], Option, Some, None, bit_and, bit_or, bit_xor, if◌then◌else◌}
use Rattle.run_laws.specs.Runs.{Step, Moves, Traps}
use Rattle.wrapping_numbers.specs.Numbers.{add64, sub64, mul64, bic64, orn64, madd64, msub64, sdiv64}
use Rattle.wrapping_numbers.specs.Shifts.{lsl64, lsr64, asr64, ror64}
use Rattle.a64_numbers.specs.Operands.{immediate, shifted}
use Rattle.a64_numbers.specs.Branches.{branch_to}
use Rattle.a64_numbers.specs.Moves.{movz, movn, movk}
use Rattle.a64_numbers.specs.Conditions.{subs_flags, ands_flags, holds, csel, csinc, csneg}
use Rattle.a64_numbers.specs.declared.flags.Flags.{Flags}
use Rattle.a64_memory.specs.Memory.{Area, load1, load8, store1, store8}
use Rattle.a64_instr.specs.declared.instr.Instr.{Instr}
use Rattle.a64_instr.specs.declared.instr.Instr.TheVariants.{AddImm, SubImm, SubsImm, AddReg, SubReg, SubsReg, AndReg, BicReg, OrrReg, OrnReg, EorReg, AndsReg, Movn, Movz, Movk, Madd, Msub, Sdiv, Lslv, Lsrv, Asrv, Rorv, Csel, Csinc, Csneg, B, Bl, BCond, Cbz, Cbnz, Br, Blr, Ret, Ldr, Str, Ldrb, Strb, LdrReg, LdrRegScaled, StrReg, StrRegScaled, LdrbReg, StrbReg, Svc, Brk}
use Rattle.a64_machine.specs.State.{State, Trap, Broke, BadAddress, read, read_or_sp, put, place_at}
use Rattle.a64_machine.specs.Services.{service}

-- goes to an address
abbrev pub goes : State → ℕ → Step State Trap
goes s to = Moves [] (record s { pc = to })

-- goes to an address with the address behind the instruction in X30
abbrev pub calls : State → ℕ → Step State Trap
calls s to = Moves [] (record s { pc = to; registers = put s.registers 30 (add64 s.pc 4) })

-- goes to an address where the test holds, else on behind the instruction
abbrev pub goes_if : State → Bool → ℕ → Step State Trap
goes_if s test to = goes s (if test then to else add64 s.pc 4)

-- writes a register, and goes on behind the instruction
abbrev pub gives : State → ℕ → ℕ → Step State Trap
gives s d v = Moves [] (record s { pc = add64 s.pc 4; registers = put s.registers d v })

-- the same, where 31 is SP
abbrev pub gives_or_sp : State → ℕ → ℕ → Step State Trap
gives_or_sp s d v = Moves [] (record s { pc = add64 s.pc 4; registers = put s.registers d v; sp = if d == 31 then v else s.sp })

-- writes a register and the flags, and goes on
abbrev pub gives_flags : State → ℕ → ℕ → Flags → Step State Trap
gives_flags s d v flags = Moves [] (record s { pc = add64 s.pc 4; registers = put s.registers d v; flags = flags })

-- what a load from an address and a store there come to
abbrev pub loads : State → ℕ → ℕ → Option ℕ → Step State Trap
loads s t address None = Traps (BadAddress address)
loads s t address (Some v) = gives s t v

abbrev pub stores : State → ℕ → Option (List Area) → Step State Trap
stores s address None = Traps (BadAddress address)
stores s address (Some memory) = Moves [] (record s { pc = add64 s.pc 4; memory = memory })

-- the step that an instruction makes
abbrev pub effect : Instr → State → Step State Trap
effect (AddImm rd rn imm high) s = gives_or_sp s rd (add64 (read_or_sp s rn) (immediate imm high))
effect (SubImm rd rn imm high) s = gives_or_sp s rd (sub64 (read_or_sp s rn) (immediate imm high))
effect (SubsImm rd rn imm high) s = let a = read_or_sp s rn in let b = immediate imm high in gives_flags s rd (sub64 a b) (subs_flags a b)
effect (AddReg rd rn rm shift by) s = gives s rd (add64 (read s.registers rn) (shifted shift (read s.registers rm) by))
effect (SubReg rd rn rm shift by) s = gives s rd (sub64 (read s.registers rn) (shifted shift (read s.registers rm) by))
effect (SubsReg rd rn rm shift by) s = let a = read s.registers rn in let b = shifted shift (read s.registers rm) by in gives_flags s rd (sub64 a b) (subs_flags a b)
effect (AndReg rd rn rm shift by) s = gives s rd (bit_and (read s.registers rn) (shifted shift (read s.registers rm) by))
effect (BicReg rd rn rm shift by) s = gives s rd (bic64 (read s.registers rn) (shifted shift (read s.registers rm) by))
effect (OrrReg rd rn rm shift by) s = gives s rd (bit_or (read s.registers rn) (shifted shift (read s.registers rm) by))
effect (OrnReg rd rn rm shift by) s = gives s rd (orn64 (read s.registers rn) (shifted shift (read s.registers rm) by))
effect (EorReg rd rn rm shift by) s = gives s rd (bit_xor (read s.registers rn) (shifted shift (read s.registers rm) by))
effect (AndsReg rd rn rm shift by) s = let v = bit_and (read s.registers rn) (shifted shift (read s.registers rm) by) in gives_flags s rd v (ands_flags v)
effect (Movn rd imm half) s = gives s rd (movn imm half)
effect (Movz rd imm half) s = gives s rd (movz imm half)
effect (Movk rd imm half) s = gives s rd (movk (read s.registers rd) imm half)
effect (Madd rd rn rm ra) s = gives s rd (madd64 (read s.registers rn) (read s.registers rm) (read s.registers ra))
effect (Msub rd rn rm ra) s = gives s rd (msub64 (read s.registers rn) (read s.registers rm) (read s.registers ra))
effect (Sdiv rd rn rm) s = gives s rd (sdiv64 (read s.registers rn) (read s.registers rm))
effect (Lslv rd rn rm) s = gives s rd (lsl64 (read s.registers rn) (read s.registers rm))
effect (Lsrv rd rn rm) s = gives s rd (lsr64 (read s.registers rn) (read s.registers rm))
effect (Asrv rd rn rm) s = gives s rd (asr64 (read s.registers rn) (read s.registers rm))
effect (Rorv rd rn rm) s = gives s rd (ror64 (read s.registers rn) (read s.registers rm))
effect (Csel rd rn rm cond) s = gives s rd (csel cond s.flags (read s.registers rn) (read s.registers rm))
effect (Csinc rd rn rm cond) s = gives s rd (csinc cond s.flags (read s.registers rn) (read s.registers rm))
effect (Csneg rd rn rm cond) s = gives s rd (csneg cond s.flags (read s.registers rn) (read s.registers rm))
effect (B to) s = goes s (branch_to 26 s.pc to)
effect (Bl to) s = calls s (branch_to 26 s.pc to)
effect (BCond to cond) s = goes_if s (holds cond s.flags) (branch_to 19 s.pc to)
effect (Cbz rt to) s = goes_if s (read s.registers rt == 0) (branch_to 19 s.pc to)
effect (Cbnz rt to) s = goes_if s (not (read s.registers rt == 0)) (branch_to 19 s.pc to)
effect (Br rn) s = goes s (read s.registers rn)
effect (Blr rn) s = calls s (read s.registers rn)
effect (Ret rn) s = goes s (read s.registers rn)
effect (Ldr rt rn imm) s = let a = add64 (read_or_sp s rn) (8 * imm) in loads s rt a (load8 s.memory a)
effect (Str rt rn imm) s = let a = add64 (read_or_sp s rn) (8 * imm) in stores s a (store8 s.memory a (read s.registers rt))
effect (Ldrb rt rn imm) s = let a = add64 (read_or_sp s rn) imm in loads s rt a (load1 s.memory a)
effect (Strb rt rn imm) s = let a = add64 (read_or_sp s rn) imm in stores s a (store1 s.memory a (read s.registers rt))
effect (LdrReg rt rn rm) s = let a = add64 (read_or_sp s rn) (read s.registers rm) in loads s rt a (load8 s.memory a)
effect (LdrRegScaled rt rn rm) s = let a = add64 (read_or_sp s rn) (mul64 8 (read s.registers rm)) in loads s rt a (load8 s.memory a)
effect (StrReg rt rn rm) s = let a = add64 (read_or_sp s rn) (read s.registers rm) in stores s a (store8 s.memory a (read s.registers rt))
effect (StrRegScaled rt rn rm) s = let a = add64 (read_or_sp s rn) (mul64 8 (read s.registers rm)) in stores s a (store8 s.memory a (read s.registers rt))
effect (LdrbReg rt rn rm) s = let a = add64 (read_or_sp s rn) (read s.registers rm) in loads s rt a (load1 s.memory a)
effect (StrbReg rt rn rm) s = let a = add64 (read_or_sp s rn) (read s.registers rm) in stores s a (store1 s.memory a (read s.registers rt))
effect (Svc imm) s = service imm s
effect (Brk imm) s = Traps (Broke imm (place_at s.pc))
