-- How many bytes the local data and the heap have, as numbers.
use Rattle.std.proofs.Common.{◌≡◌, refl}
use Rattle.a64_memory.specs.Areas.{local_bytes, heap_bytes}

pub local_bytes-is : local_bytes ≡ 8388608
unfolding local_bytes
local_bytes-is = refl

pub heap_bytes-is : heap_bytes ≡ 67108864
unfolding heap_bytes
heap_bytes-is = refl
