use Rattle.std.proofs.Common.{◌≡◌, ◌++◌, drop, map}
use Rattle.a64_table.specs.Table.{word_of}
use Rattle.link_words.proofs.pushing.push_all.Given as goal

abbrev pub invariant-loop-instr : goal.invariant-loop-instr
invariant-loop-instr l = l.words.items ++ map word_of (drop l.instr-index l.instrs) ≡ l.initial.words.items ++ map word_of l.instrs
