use Rattle.std.proofs.Common.{◌≡◌, drop}
use Rattle.a64_memory.specs.Memory.{load8}
use Rattle.a64_memory.proofs.access.load8.Given as goal

abbrev pub invariant-loop-region : goal.invariant-loop-region
invariant-loop-region l = load8 (drop l.region-index l.regions) l.address ≡ load8 l.regions l.address
