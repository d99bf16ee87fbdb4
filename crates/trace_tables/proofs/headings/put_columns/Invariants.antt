use Rattle.std.proofs.Common.{◌≡◌, ◌++◌}
use Rattle.trace_tables.specs.Headings.{columns_text}
use Rattle.trace_tables.proofs.headings.put_columns.Given as goal

abbrev pub invariant-loop-reg : goal.invariant-loop-reg
invariant-loop-reg l = l.text.items ≡ l.initial.text.items ++ columns_text l.reg
