use Rattle.std.proofs.Common.{◌≡◌, ◌++◌}
use Rattle.a64_text.specs.Operands.{last_digits}
use Rattle.a64_text.proofs.parts.put_last_digits.Given as goal

abbrev pub invariant-loop-left : goal.invariant-loop-left
invariant-loop-left l = l.text.items ++ last_digits l.left l.number ≡ l.initial.text.items ++ last_digits l.count l.number
