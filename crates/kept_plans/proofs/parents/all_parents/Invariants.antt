use Rattle.std.proofs.Common.{map}
use Rattle.std.specs.Prelude.{All}
use Rattle.lir_core.specs.Flows.{IsValidFlow}
use Rattle.kept_plans.proofs.Fronts.{IsFront}
use Rattle.kept_plans.proofs.parents.all_parents.Given as goal

abbrev pub invariant-loop-place : goal.invariant-loop-place
invariant-loop-place l = All IsValidFlow l.flows → IsFront l.flows (map (λ v. v.items) l.cuts) l.place (map (λ v. v.items) l.above.items)
