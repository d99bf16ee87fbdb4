use Rattle.std.proofs.Common.{◌≡◌, ◌+◌, ◌++◌, length, map, drop}
use Rattle.run_laws.specs.Layers.{whole_width, spread}
use Rattle.procedure_pieces.specs.Linked.{piece_width}
use Rattle.procedure_code.specs.Parts.{entry_at}
use Rattle.procedure_code.specs.Joined.{filled_by}
use Rattle.procedure_code.specs.Views.{piece_in}
use Rattle.procedure_code.proofs.joining.push_pieces.Given as goal

abbrev pub invariant-loop-piece : goal.invariant-loop-piece
invariant-loop-piece l =
    let F = filled_by (entry_at l.entries.procedures.now) l.entries.routines in
    record {
      size : length l.words.items + whole_width piece_width l.piece-index (map piece_in (drop l.piece-index l.pieces)) ≡ length l.initial.words.items + whole_width piece_width 0 (map piece_in l.pieces);
      words : l.words.items ++ spread F piece_width l.piece-index (length l.words.items) (map piece_in (drop l.piece-index l.pieces)) ≡ l.initial.words.items ++ spread F piece_width 0 (length l.initial.words.items) (map piece_in l.pieces);
    }
