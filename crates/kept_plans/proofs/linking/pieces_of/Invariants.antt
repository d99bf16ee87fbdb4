use Rattle.std.proofs.Common.{◌≡◌, ◌++◌, ◌<◌, ℕ, map, drop, length}
use Rattle.placed_code.specs.Placed.{proc_of}
use Rattle.link_blocks.specs.Plans.{placed_in}
use Rattle.procedure_pieces.specs.Pieces.{piece_of}
use Rattle.procedure_code.specs.Parts.{IsWhole}
use Rattle.procedure_code.specs.Views.{piece_in}
use Rattle.kept_plans.proofs.linking.pieces_of.Given as goal

abbrev pub invariant-loop-plan : goal.invariant-loop-plan
invariant-loop-plan l = record {
  count : length l.pieces.items ≡ l.plan-index;
  pieces : ((p : ℕ) → p < length (map placed_in l.plans) → IsWhole (proc_of (map placed_in l.plans) p))
      → map piece_in l.pieces.items ++ map piece_of (map placed_in (drop l.plan-index l.plans)) ≡ map piece_of (map placed_in l.plans);
}
