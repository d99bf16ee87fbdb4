use Rattle.std.proofs.Common.{◌≡◌, ◌≤◌, drop, length, map}
use Rattle.placed_code.specs.Results.{with_copies}
use Rattle.link_layout.specs.Spots.{copy_of}
use Rattle.link_layout.proofs.homes.add_homes.Given as goal

abbrev pub invariant-loop-i : goal.invariant-loop-i
invariant-loop-i l = record { within : l.i ≤ length l.copies; homes : l.homes ≡ with_copies (map copy_of (drop l.i l.copies)) l.initial.homes }

abbrev pub decreases-loop-i : goal.decreases-loop-i
decreases-loop-i l = l.i
