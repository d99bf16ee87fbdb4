use Rattle.std.proofs.Common.{◌≡◌, ◌++◌, take, map}
use Rattle.a64_table.specs.Table.{word_of}
use Rattle.elf_file.proofs.native.push_instrs.Given as goal

abbrev pub invariant-loop-instr : goal.invariant-loop-instr
invariant-loop-instr l = l.words.items ≡ l.fn.words.items ++ map word_of (take l.instr-index l.instrs)
