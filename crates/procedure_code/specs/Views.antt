-- Pieces in code as pieces.
use Rattle.std.specs.Prelude.{map}
use Rattle.procedure_pieces.specs.Pieces as p
use Rattle.procedure_code.specs.Holes.{hole_in}
use Rattle.procedure_code.specs.declared.pieces.Piece.{Piece}

abbrev pub piece_in : Piece → p.Piece
piece_in piece = record { counted = piece.counted; frame = piece.frame; words = piece.words.items; holes = map hole_in piece.holes.items }
