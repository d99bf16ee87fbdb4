use Rattle.std.proofs.Common.{◌≡◌, ℕ, List, drop}
use Rattle.trace_needs.specs.Needs.{positions_of}
use Rattle.trace_needs.specs.Tables.{mentioned, passed_all}
use Rattle.trace_needs.proofs.mentioning.pass_mentions.Given as goal

abbrev pub invariant-loop-number : goal.invariant-loop-number
invariant-loop-number l = (rows : List (List ℕ)) → passed_all mentioned (positions_of l.flow rows (drop l.number-index l.nodes)) l.table ≡ passed_all mentioned (positions_of l.flow rows l.nodes) l.initial.table
