use Rattle.std.proofs.Common.{◌≡◌, ◌≤◌, drop, length}
use Rattle.lir_core.specs.Flows.{code_nodes}
use Rattle.lir_core.specs.Lines.{slots_of}
use Rattle.link_blocks.proofs.blocks.slots_of.Given as goal

abbrev pub invariant-loop-i : goal.invariant-loop-i
invariant-loop-i l = record { within : l.i ≤ length l.nodes; slots : l.slots ≡ slots_of (code_nodes (drop l.i l.nodes)) }

abbrev pub decreases-loop-i : goal.decreases-loop-i
decreases-loop-i l = l.i
