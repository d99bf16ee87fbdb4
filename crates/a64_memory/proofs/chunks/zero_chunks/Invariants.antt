use Rattle.std.proofs.Common.{◌≡◌, [], replicate}
use Rattle.a64_memory.specs.Chunks.{padded}
use Rattle.a64_memory.proofs.chunks.zero_chunks.Given as goal

abbrev pub invariant-loop : goal.invariant-loop
invariant-loop l = l.chunks.items ≡ replicate l.counter (padded 1048576 [])
