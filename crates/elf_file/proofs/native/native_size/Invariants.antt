use Rattle.std.proofs.Common.{◌≡◌, ◌+◌, ◌≤◌, drop}
use Rattle.elf_file.specs.Native.{stubs_in}
use Rattle.elf_file.proofs.native.native_size.Given as goal

abbrev pub invariant-loop-word : goal.invariant-loop-word
invariant-loop-word l = record {
  counted : l.stubs + stubs_in (drop l.word-index l.code) ≡ stubs_in l.code;
  few : l.stubs ≤ l.word-index;
}
