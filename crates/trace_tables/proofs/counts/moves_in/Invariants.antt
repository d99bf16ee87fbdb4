use Rattle.std.proofs.Common.{◌≡◌, ◌≤◌, ◌+◌, drop}
use Rattle.trace_tables.specs.Counts.{moves_in}
use Rattle.trace_tables.proofs.counts.moves_in.Given as goal

abbrev pub invariant-loop-next : goal.invariant-loop-next
invariant-loop-next l = record { few : l.count ≤ l.next-index; counted : l.count + moves_in (drop l.next-index l.moves) ≡ moves_in l.moves }
