use Rattle.std.proofs.Common.{◌≡◌, ℕ, List, map, take}
use Rattle.ob_types.specs.Table.{Table}
use Rattle.ob_judge.specs.Scopes.{look_up}
use Rattle.check_types.specs.names.Before.{names_before}
use Rattle.check_types.specs.names.Meaning.{names_of}
use Rattle.check_types.proofs.names.names.seen_before.Given as goal

abbrev pub invariant-loop-i : goal.invariant-loop-i
invariant-loop-i l = (t : Table) (strings : List (List ℕ)) →
    look_up l.name (map (λ n. names_before l.procedures (names_of t strings n)) l.levels) ≡ look_up l.name (map (λ n. names_before l.procedures (names_of t strings n)) (take l.i l.levels))
