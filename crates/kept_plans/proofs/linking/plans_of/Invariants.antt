use Rattle.std.proofs.Common.{◌≡◌, ◌++◌, ℕ, List, map, drop, length}
use Rattle.std.specs.List.{list_all}
use Rattle.linked_flows.specs.Allocations.{Cut}
use Rattle.link_blocks.specs.Fits.{numbers_fit}
use Rattle.link_blocks.specs.Plans.{placed_in}
use Rattle.link_plan.specs.Linked.{AreCuts, plans_of}
use Rattle.kept_plans.proofs.linking.plans_of.Given as goal

abbrev pub invariant-loop-place : goal.invariant-loop-place
invariant-loop-place l = record {
  count : length l.plans.items ≡ l.place;
  fits : list_all (λ f. numbers_fit f) l.flows ≡ list_all (λ f. numbers_fit f) (drop l.place l.flows);
  plans : (k : ℕ) (cuts : List Cut) → AreCuts k l.flows (map (λ v. v.items) l.parts) (map (λ v. v.items) l.outs) cuts
      → map placed_in l.plans.items ++ plans_of (drop l.place cuts) ≡ plans_of cuts;
}
