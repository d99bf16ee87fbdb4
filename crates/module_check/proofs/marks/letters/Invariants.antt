use Rattle.std.proofs.Common.{◌≡◌, ◌+◌, drop}
use Rattle.module_check.specs.Marks.{letters}
use Rattle.module_check.proofs.marks.letters.Given as goal

-- the letters that were counted, and those that are left
abbrev pub invariant-loop-byte : goal.invariant-loop-byte
invariant-loop-byte l = record { all : letters l.text ≡ l.count + letters (drop l.byte-index l.text); count_is : l.count ≡ l.byte-index }
