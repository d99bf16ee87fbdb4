use Rattle.std.proofs.Common.{◌≡◌, length}
use Rattle.link_blocks.proofs.planning.empty_blocks.Given as goal

abbrev pub invariant-loop-number : goal.invariant-loop-number
invariant-loop-number l = length l.blocks.items ≡ l._number
