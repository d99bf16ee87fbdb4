use Rattle.std.proofs.Common.{◌≡◌, true, drop}
use Rattle.std.specs.Prelude.{fold, IfSome}
use Rattle.trace_build.specs.Traces.{is_in, first_of, most_frequent, unassigned}
use Rattle.trace_build.proofs.frequency.most_frequent.Given as goal

abbrev pub invariant-loop-candidate : goal.invariant-loop-candidate
invariant-loop-candidate l =
    (fold (first_of l.nodes) l.first (unassigned l.free l.enter (drop l.candidate-index l.candidates)) ≡ most_frequent l.nodes (unassigned l.free l.enter l.candidates))
    × IfSome l.first (λ n. is_in l.free n ≡ true)
