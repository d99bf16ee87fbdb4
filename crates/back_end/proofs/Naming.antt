-- Procedures whose pieces are made and their names.
use Rattle.std.proofs.Common.{◌≡◌, ◌<◌, List, [], ◌∷◌, map, length, sym, ap, ◌∙◌, arith}
use Rattle.ssa_core.specs.declared.procedure.Proc.{Proc}
use Rattle.a64_select.specs.Selected.{selected}
use Rattle.placed_code.specs.declared.data.ImageData.{ImageData}
use Rattle.placed_code.specs.Results.{placed, all_placed}
use Rattle.placed_code.proofs.Parts.{length_map}
use Rattle.linked_flows.specs.Allocations.{Cut, steps_of, allocated, all_allocated}
use Rattle.procedure_pieces.specs.Pieces.{Piece, piece_of}
use Rattle.procedure_code.specs.Views.{piece_in}
use Rattle.procedure_code.specs.declared.pieces.Piece.{Piece as MadePiece}
use Rattle.link_plan.specs.Linked.{IsUnnamedAndFar, greatest_in, pieces_of}

module _ (procs : List Proc) (pieces : List MadePiece) (cuts : List Cut) (flows_are : map (λ c. c.flow) cuts ≡ map selected procs) (pieces_are : map piece_in pieces ≡ pieces_of cuts) where
  -- each has a piece
  pub piece_for_each : length pieces ≡ length procs
  piece_for_each =
      let all = all_allocated cuts in
      sym (length_map piece_in pieces)
      ∙ ap length pieces_are
      ∙ length_map piece_of (all_placed steps_of all)
      ∙ length_map (placed steps_of) all
      ∙ length_map allocated cuts
      ∙ sym (length_map (λ (c : Cut). c.flow) cuts)
      ∙ ap length flows_are
      ∙ length_map selected procs

  -- where each has a name, no frame is past those of an image without names
  pub named_or_near : (extra : ImageData) → length extra.names ≡ length procs → IsUnnamedAndFar extra (greatest_in (map piece_in pieces)) → ⊥
  named_or_near extra named e =
      let unnamed = ap length e.unnamed in
      let count = piece_for_each in
      let none = length_map piece_in pieces in
      no_frame (map piece_in pieces) (omega (arith, unnamed, count, none, named)) e.far
    where
      no_frame : (ps : List Piece) → length ps ≡ 0 → 32768 < greatest_in ps → ⊥
      no_frame [] z l = omega (arith, l)
      no_frame (p ∷ ps) z l = omega (arith, z)
