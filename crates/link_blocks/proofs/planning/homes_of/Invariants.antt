use Rattle.std.proofs.Common.{◌≡◌, ◌≤◌, [], drop, length, map}
use Rattle.placed_code.specs.Results.{with_blocks}
use Rattle.link_blocks.specs.Plans.{block_in}
use Rattle.link_blocks.proofs.planning.homes_of.Given as goal

abbrev pub invariant-loop-i : goal.invariant-loop-i
invariant-loop-i l = record { within : l.i ≤ length l.blocks; homes : l.homes ≡ with_blocks (map block_in (drop l.i l.blocks)) [] }

abbrev pub decreases-loop-i : goal.decreases-loop-i
decreases-loop-i l = l.i
