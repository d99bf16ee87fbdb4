use Rattle.std.proofs.Common.{◌≡◌, ◌+◌, ◌++◌, drop}
use Rattle.elf_file.specs.Native.{stubs_in, stub_words, each, all_stubs}
use Rattle.elf_file.proofs.native.push_stubs.Given as goal

abbrev pub invariant-loop-place : goal.invariant-loop-place
invariant-loop-place l = record {
  written : l.words.items ++ each (stub_words l.size) l.place l.before (drop l.place l.code) ≡ l.fn.words.items ++ all_stubs l.size l.code;
  counted : l.before + stubs_in (drop l.place l.code) ≡ stubs_in l.code;
}
