use Rattle.std.proofs.Common.{◌≡◌, ℕ, ◌-◌, ◌<◌, ◌≤◌, false, get_or, map, take, vec_capacity}
use Rattle.core.specs.Mem.Slots.{slots_filled, slots_len, slots_items}
use Rattle.core.specs.Mem.Slots.Ownership.{Filled}
use Rattle.trace_pool.specs.Ends.{done_of}
use Rattle.trace_pool.proofs.pool.Pool.close.Given as goal

abbrev pub invariant-loop-trace : goal.invariant-loop-trace
invariant-loop-trace g l = record {
  filled : Filled (slots_filled l.closed.slots) l.trace (slots_len l.closed.slots);
  emptied : (k : ℕ) → k < l.trace → get_or (slots_filled l.closed.slots) k false ≡ false;
  items : slots_items l.closed.slots ≡ slots_items l.initial.closed.slots;
  len : slots_len l.closed.slots ≡ slots_len l.initial.closed.slots;
  room : slots_len l.closed.slots ≤ vec_capacity l.results;
  within : l.trace ≤ slots_len l.closed.slots;
  results : l.results.items ≡ map done_of (take l.trace (slots_items l.closed.slots));
}

abbrev pub decreases-loop-trace : goal.decreases-loop-trace
decreases-loop-trace g l = slots_len l.closed.slots - l.trace
