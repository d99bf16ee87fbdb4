use Rattle.std.proofs.Common.{◌≡◌, ◌++◌, drop}
use Rattle.check_procedures.specs.lines.Lines.{starts_from}
use Rattle.check_procedures.proofs.lines.line_starts.Given as goal

abbrev pub invariant-loop-i : goal.invariant-loop-i
invariant-loop-i l = l.starts.items ++ starts_from l.i (drop l.i l.bytes) ≡ starts_from 0 l.bytes
