use Rattle.std.proofs.Common.{◌≡◌, ◌+◌, ◌<◌, ◌^◌, ◌++◌, ℕ, List, map, drop, length, true, false}
use Rattle.std.specs.List.{list_all}
use Rattle.std.specs.Vec.Iter.{into_iter_items}
use Rattle.placed_code.specs.Results.{all_placed}
use Rattle.placed_code.specs.Layout.{all_words}
use Rattle.linked_flows.specs.Allocations.{Cut, steps_of, all_allocated}
use Rattle.link_blocks.specs.Fits.{numbers_fit}
use Rattle.procedure_code.specs.Views.{piece_in}
use Rattle.link_plan.specs.Linked.{AreCuts, pieces_of}
use Rattle.link_plan.proofs.linking.add_pieces.Given as goal

abbrev pub invariant-loop-flow : goal.invariant-loop-flow
invariant-loop-flow l = record {
  parts : into_iter_items l.parts ≡ drop l.flow-index l.fn.parts.items;
  outs : into_iter_items l.outs ≡ drop l.flow-index l.fn.outs.items;
  count : l.room ≡ true → length l.pieces.items ≡ length l.initial.pieces.items + l.flow-index;
  fits : list_all (λ f. numbers_fit f) l.flows ≡ list_all (λ f. numbers_fit f) (drop l.flow-index l.flows);
  pieces : l.room ≡ true → (k : ℕ) (cuts : List Cut) → AreCuts k l.flows (map (λ v. v.items) l.fn.parts.items) (map (λ v. v.items) l.fn.outs.items) cuts
      → map piece_in l.pieces.items ++ pieces_of (drop l.flow-index cuts) ≡ map piece_in l.initial.pieces.items ++ pieces_of cuts;
  over : l.room ≡ false → (k : ℕ) (cuts : List Cut) → AreCuts k l.flows (map (λ v. v.items) l.fn.parts.items) (map (λ v. v.items) l.fn.outs.items) cuts
      → 2 ^ 18 < length (all_words (all_placed steps_of (all_allocated cuts)));
}
