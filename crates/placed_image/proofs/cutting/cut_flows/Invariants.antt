use Rattle.std.proofs.Common.{map}
use Rattle.std.specs.Prelude.{All}
use Rattle.lir_core.specs.Flows.{IsValidFlow}
use Rattle.placed_image.proofs.Cuts.{IsFront, IsLeft}
use Rattle.placed_image.proofs.cutting.cut_flows.Given as goal

abbrev pub invariant-loop-flow : goal.invariant-loop-flow
invariant-loop-flow l = record {
  cut : All IsValidFlow l.flows → IsFront l.builder l.flows l.flow-index (map (λ v. v.items) l.cuts.items);
  left : IsLeft l.builder l.flows l.flow-index l.left;
}
