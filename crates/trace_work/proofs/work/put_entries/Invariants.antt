use Rattle.std.proofs.Common.{◌≡◌, ◌++◌}
use Rattle.trace_work.specs.Entries.{entries_to}
use Rattle.trace_work.proofs.work.put_entries.Given as goal

abbrev pub invariant-loop-number : goal.invariant-loop-number
invariant-loop-number l = l.entries.items ≡ l.initial.entries.items ++ entries_to l.flow l.plan l.number
