use Rattle.std.proofs.Common.{◌≡◌, ◌≤◌, ◌+◌, ◌^◌, ◌++◌, map, drop}
use Rattle.run_laws.specs.Layers.{whole_width}
use Rattle.procedure_pieces.specs.Linked.{piece_width}
use Rattle.procedure_code.specs.Joined.{begin_from}
use Rattle.procedure_code.specs.Views.{piece_in}
use Rattle.procedure_code.proofs.whole.all_entries.Given as goal

abbrev pub invariant-loop-piece : goal.invariant-loop-piece
invariant-loop-piece l = record {
  low : l.at ≤ 2 ^ 18;
  whole : l.at + whole_width piece_width l.piece-index (map piece_in (drop l.piece-index l.pieces)) ≡ l.bodies + 39 + whole_width piece_width 0 (map piece_in l.pieces);
  found : l.found.items ++ begin_from l.at (map piece_in (drop l.piece-index l.pieces)) ≡ begin_from (l.bodies + 39) (map piece_in l.pieces);
}
