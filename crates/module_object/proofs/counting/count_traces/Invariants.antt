use Rattle.std.proofs.Common.{◌≤◌}
use Rattle.planned_image.proofs.placed_image.Cuts.{IsLeft}
use Rattle.module_object.proofs.counting.count_traces.Given as goal

abbrev pub invariant-loop-flow : goal.invariant-loop-flow
invariant-loop-flow l = record {
  left : IsLeft l.builder l.flows l.flow-index l.left;
  most : l.left ≤ 262144;
}
