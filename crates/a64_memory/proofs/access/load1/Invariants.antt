use Rattle.std.proofs.Common.{◌≡◌, drop}
use Rattle.a64_memory.specs.Memory.{load1}
use Rattle.a64_memory.proofs.access.load1.Given as goal

abbrev pub invariant-loop-region : goal.invariant-loop-region
invariant-loop-region l = load1 (drop l.region-index l.regions) l.address ≡ load1 l.regions l.address
