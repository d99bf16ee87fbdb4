use Rattle.std.proofs.Common.{◌≡◌, true}
use Rattle.std.specs.List.{AllWithin}
use Rattle.trace_needs.specs.Tables.{is_before}
use Rattle.trace_needs.proofs.rows.Rows.count_before.Given as goal

abbrev pub invariant-loop-at : goal.invariant-loop-at
invariant-loop-at l = AllWithin (λ n. is_before l.value l.position n ≡ true) l.self.notes.items 0 l.at
