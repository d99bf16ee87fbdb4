use Rattle.std.proofs.Common.{◌≡◌, ◌≤◌, map, drop, length}
use Rattle.lir_core.specs.Flows.{operation_of}
use Rattle.lir_core.specs.Lines.{slots_in}
use Rattle.link_blocks.proofs.blocks.slots_in.Given as goal

abbrev pub invariant-loop-i : goal.invariant-loop-i
invariant-loop-i l = record { within : l.i ≤ length l.lirs; slots : l.slots ≡ slots_in (map operation_of (drop l.i l.lirs)) }

abbrev pub decreases-loop-i : goal.decreases-loop-i
decreases-loop-i l = l.i
