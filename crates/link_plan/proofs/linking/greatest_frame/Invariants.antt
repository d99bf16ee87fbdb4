use Rattle.std.proofs.Common.{◌≡◌, ◌≤◌, ◌%◌, map, drop, length}
use Rattle.placed_code.specs.Words.{most_frame}
use Rattle.procedure_code.specs.Views.{piece_in}
use Rattle.link_plan.specs.Linked.{greatest_in}
use Rattle.link_plan.proofs.linking.greatest_frame.Given as goal

abbrev pub invariant-loop-i : goal.invariant-loop-i
invariant-loop-i l = record {
  within : l.i ≤ length l.pieces;
  greatest : l.frame ≡ greatest_in (map piece_in (drop l.i l.pieces));
  most : l.frame ≤ most_frame;
  whole : l.frame % 8 ≡ 0;
}

abbrev pub decreases-loop-i : goal.decreases-loop-i
decreases-loop-i l = l.i
