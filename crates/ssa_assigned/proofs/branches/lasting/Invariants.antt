use Rattle.std.proofs.Common.{◌≡◌, length, take}
use Rattle.ssa_assigned.proofs.Suffixes.{AreLasting}
use Rattle.ssa_assigned.proofs.branches.lasting.Given as goal

abbrev pub invariant-loop-i : goal.invariant-loop-i
invariant-loop-i l = (length l.list.items ≡ l.count) × AreLasting (take l.i l.parts) l.list.items
