use Rattle.std.proofs.Common.{◌≡◌, ◌≤◌, drop, length, map}
use Rattle.placed_code.specs.Results.{with_cells}
use Rattle.link_blocks.specs.Plans.{cell_in}
use Rattle.link_blocks.proofs.planning.add_cells.Given as goal

abbrev pub invariant-loop-i : goal.invariant-loop-i
invariant-loop-i l = record { within : l.i ≤ length l.cells; homes : l.homes ≡ with_cells (map cell_in (drop l.i l.cells)) l.initial.homes }

abbrev pub decreases-loop-i : goal.decreases-loop-i
decreases-loop-i l = l.i
