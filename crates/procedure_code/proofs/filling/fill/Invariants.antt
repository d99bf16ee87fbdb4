use Rattle.std.proofs.Common.{◌≡◌, ◌-◌, map, drop, length}
use Rattle.procedure_pieces.specs.Claims.{AreInOrder}
use Rattle.procedure_code.specs.Parts.{entry_at}
use Rattle.procedure_code.specs.Joined.{filled_at}
use Rattle.procedure_code.specs.Holes.{hole_in}
use Rattle.procedure_code.proofs.filling.fill.Given as goal

abbrev pub invariant-loop-hole : goal.invariant-loop-hole
invariant-loop-hole l =
    let F = filled_at (entry_at l.entries.procedures.now) l.entries.routines l.from in
    record {
      size : length l.words.items ≡ length l.initial.words.items;
      within : AreInOrder 0 (length l.initial.words.items - l.from) (map hole_in (drop l.hole-index l.holes));
      words : F (map hole_in (drop l.hole-index l.holes)) l.words.items ≡ F (map hole_in l.holes) l.initial.words.items;
    }
