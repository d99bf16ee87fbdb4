use Rattle.std.proofs.Common.{◌≡◌, drop}
use Rattle.a64_memory.specs.Memory.{place}
use Rattle.a64_memory.proofs.access.find.Given as goal

abbrev pub invariant-loop-i : goal.invariant-loop-i
invariant-loop-i l = place (drop l.i l.regions) l.i l.address l.count ≡ place l.regions 0 l.address l.count
