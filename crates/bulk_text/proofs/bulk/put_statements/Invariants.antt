use Rattle.std.proofs.Common.{◌++◌, ◌-◌}
use Rattle.bulk_text.specs.Bulk.{statements, behind_statements}
use Rattle.bulk_text.proofs.Rounds.{Lefts}
use Rattle.bulk_text.proofs.bulk.put_statements.Given as goal

abbrev pub invariant-loop : goal.invariant-loop
invariant-loop l = Lefts (l.fn.text.items ++ statements 8 l.fn.random) (behind_statements 8 l.fn.random) l.text.items (8 - l.counter) l.random
