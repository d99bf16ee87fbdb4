use Rattle.std.proofs.Common.{◌≡◌, ◌≤◌, ◌^◌, ◌+◌, drop, map}
use Rattle.link_layout.specs.Spots.{copy_of, widths_of_copies}
use Rattle.link_layout.proofs.copies.sum_of_widths.Given as goal

abbrev pub invariant-loop-copy : goal.invariant-loop-copy
invariant-loop-copy l = record {
  low : l.width ≤ 2 ^ 18;
  whole : l.width + widths_of_copies l.homes l.outs (map copy_of (drop l.copy-index l.copies)) ≡ widths_of_copies l.homes l.outs (map copy_of l.copies);
}
