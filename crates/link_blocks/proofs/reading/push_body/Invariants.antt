use Rattle.std.proofs.Common.{◌≡◌, ◌++◌, map, drop}
use Rattle.link_layout.specs.Spots.{copy_of}
use Rattle.link_blocks.specs.Ahead.{copies_ahead, behind_copies, AreAllDistinct}
use Rattle.link_blocks.proofs.reading.push_body.Given as goal

abbrev pub invariant-loop-at : goal.invariant-loop-at
invariant-loop-at l = record {
  copies : AreAllDistinct l.lines → map copy_of l.copies.items ++ copies_ahead (drop l.at l.lines) ≡ map copy_of l.initial.copies.items ++ copies_ahead (drop l.from l.lines);
  behind : behind_copies (drop l.at l.lines) ≡ behind_copies (drop l.from l.lines);
}
