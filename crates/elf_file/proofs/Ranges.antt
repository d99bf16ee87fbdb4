-- Native instructions have their fields in range, and branches arrive.
use Rattle.std.proofs.Common.{◌≡◌, ℕ, ◌%◌, ◌^◌, ◌<◌, Some, arith}
use Rattle.std.proofs.lemmas.Bool.Decides.{nat_tests}
use Rattle.a64_instr.specs.declared.instr.Instr.{Instr}
use Rattle.a64_instr.specs.declared.instr.Instr.TheVariants as i
use Rattle.a64_numbers.specs.Branches.{branch_to}
use Rattle.a64_numbers.proofs.Branches.{branch_26_reaches, branch_field_lt}
use Rattle.a64_table.specs.Table.{InRange, word_of}
use Rattle.a64_table.specs.Decode.{decode_of}
use Rattle.a64_table.proofs.Laws.{decodes}
use Rattle.elf_file.specs.Native.{address, distance, frame_register, on_frame, branch, call}

frame_below : (n : ℕ) → n < 2 ^ 5 → frame_register n < 2 ^ 5
frame_below n h = grind (arith, nat_tests)

pub on_frame_fits : (instr : Instr) → InRange instr → InRange (on_frame instr)
on_frame_fits (i.AddImm rd rn imm high) h = (frame_below rd h.0, (frame_below rn h.1.0, h.1.1))
on_frame_fits (i.SubImm rd rn imm high) h = (frame_below rd h.0, (frame_below rn h.1.0, h.1.1))
on_frame_fits (i.SubsImm rd rn imm high) h = (h.0, (frame_below rn h.1.0, h.1.1))
on_frame_fits (i.Ldr rt rn imm) h = (h.0, (frame_below rn h.1.0, h.1.1))
on_frame_fits (i.Str rt rn imm) h = (h.0, (frame_below rn h.1.0, h.1.1))
on_frame_fits (i.Ldrb rt rn imm) h = (h.0, (frame_below rn h.1.0, h.1.1))
on_frame_fits (i.Strb rt rn imm) h = (h.0, (frame_below rn h.1.0, h.1.1))
on_frame_fits (i.LdrReg rt rn rm) h = (h.0, (frame_below rn h.1.0, h.1.1))
on_frame_fits (i.LdrRegScaled rt rn rm) h = (h.0, (frame_below rn h.1.0, h.1.1))
on_frame_fits (i.StrReg rt rn rm) h = (h.0, (frame_below rn h.1.0, h.1.1))
on_frame_fits (i.StrRegScaled rt rn rm) h = (h.0, (frame_below rn h.1.0, h.1.1))
on_frame_fits (i.LdrbReg rt rn rm) h = (h.0, (frame_below rn h.1.0, h.1.1))
on_frame_fits (i.StrbReg rt rn rm) h = (h.0, (frame_below rn h.1.0, h.1.1))
on_frame_fits other h = h

pub branch_decodes : (from to : ℕ) → decode_of (word_of (branch from to)) ≡ Some (branch from to)
branch_decodes from to = decodes (branch from to) (branch_field_lt 26 (address from) (address to), tt)

pub call_decodes : (from to : ℕ) → decode_of (word_of (call from to)) ≡ Some (call from to)
call_decodes from to = decodes (call from to) (branch_field_lt 26 (address from) (address to), tt)

aligned : (place : ℕ) → address place % 4 ≡ 0
aligned place = omega arith

pub arrives : (from to : ℕ) → from < 2 ^ 21 → to < 2 ^ 21 → branch_to 26 (address from) (distance from to) ≡ address to
arrives from to p q = branch_26_reaches (address from) (address to) (omega arith) (omega arith) (aligned from) (aligned to) (omega arith) (omega arith)
