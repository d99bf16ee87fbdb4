use Rattle.std.proofs.Common.{◌≡◌, ◌-◌, ◌≤◌, length, take}
use Rattle.a64_memory.specs.Bytes.{splice}
use Rattle.a64_memory.specs.Chunks.{joined, AreOfLength}
use Rattle.a64_memory.proofs.chunks.store_across.Given as goal

abbrev pub invariant-loop-done : goal.invariant-loop-done
invariant-loop-done l = (l.done ≤ length l.bytes) × (AreOfLength 1048576 l.chunks × ((length l.chunks ≡ length l.fn.chunks) × (joined l.chunks ≡ splice (joined l.fn.chunks) l.at (take l.done l.bytes))))

abbrev pub decreases-loop-done : goal.decreases-loop-done
decreases-loop-done l = length l.bytes - l.done
