use Rattle.std.proofs.Common.{◌≡◌, ◌+◌, [], ◌∷◌, ◌++◌, drop}
use Rattle.elf_file.specs.Native.{stubs_in, native_word, each, all_native}
use Rattle.elf_file.proofs.native.push_native.Given as goal

abbrev pub invariant-loop-place : goal.invariant-loop-place
invariant-loop-place l = record {
  written : l.words.items ++ each (λ place before word. native_word l.size place before word ∷ []) l.place l.before (drop l.place l.code) ≡ l.fn.words.items ++ all_native l.size l.code;
  counted : l.before + stubs_in (drop l.place l.code) ≡ stubs_in l.code;
}
