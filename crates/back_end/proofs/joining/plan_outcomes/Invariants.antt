use Rattle.std.proofs.Common.{◌≤◌, List}
use Rattle.lir_core.specs.declared.flow.Flow.{Flow}
use Rattle.back_end.specs.Tasks.{AreOutcomes}
use Rattle.back_end.proofs.Planning.{IsUnderWay}
use Rattle.back_end.proofs.joining.plan_outcomes.Given as goal

abbrev pub invariant-loop-outcome : goal.invariant-loop-outcome
invariant-loop-outcome g l = record {
  few : l.planned.traces ≤ 262144;
  way : (flows : List Flow) → AreOutcomes l.choice flows l.fn.outcomes.items → IsUnderWay l.choice flows l.outcome-iterator.rest.items l.planned;
}
