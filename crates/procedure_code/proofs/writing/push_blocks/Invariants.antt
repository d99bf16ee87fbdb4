use Rattle.std.proofs.Common.{◌≡◌, ◌+◌, ◌++◌, length, map, drop}
use Rattle.run_laws.specs.Layers.{whole_width, spread}
use Rattle.a64_table.specs.Table.{word_of}
use Rattle.placed_code.specs.Layout.{followed, placings, block_width}
use Rattle.link_words.specs.Fields.{entry_in}
use Rattle.link_blocks.specs.Plans.{placed_in}
use Rattle.procedure_code.specs.Parts.{entry_at}
use Rattle.procedure_pieces.specs.Code.{block_code}
use Rattle.procedure_code.specs.Holes.{hole_in}
use Rattle.procedure_pieces.specs.Pieces.{block_holes}
use Rattle.procedure_code.proofs.writing.push_blocks.Given as goal

abbrev pub invariant-loop-i : goal.invariant-loop-i
invariant-loop-i l =
    let W = block_width (placed_in l.plan) in
    let F = block_code (entry_at l.entries.procedures.now) l.entries.routines (entry_in l.places) (placed_in l.plan) in
    let rest = followed (length (placed_in l.plan).blocks) (drop l.i l.plan.order) in
    record {
      size : length l.words.items + whole_width W l.i rest ≡ length l.initial.words.items + whole_width W 0 (placings (placed_in l.plan));
      words : l.words.items ++ map word_of (spread F W l.i (length l.words.items) rest) ≡ l.initial.words.items ++ map word_of (spread F W 0 (length l.initial.words.items) (placings (placed_in l.plan)));
      holes : map hole_in l.holes.items ++ spread (block_holes (placed_in l.plan)) W l.i (length l.words.items) rest ≡ map hole_in l.initial.holes.items ++ spread (block_holes (placed_in l.plan)) W 0 (length l.initial.words.items) (placings (placed_in l.plan));
    }
