use Rattle.std.proofs.Common.{◌≡◌, ◌≤◌, drop, length}
use Rattle.link_words.specs.Fields.{InReach}
use Rattle.link_layout.specs.Starts.{IsByNumber}
use Rattle.link_layout.proofs.blocks.by_number.Given as goal

abbrev pub invariant-loop-i : goal.invariant-loop-i
invariant-loop-i l = record {
  in_order : l.i ≤ length l.order;
  in_starts : l.i ≤ length l.starts;
  found : length l.starts ≡ length l.order → IsByNumber (drop l.i l.order) (drop l.i l.starts) l.count l.places.items;
  size : length l.places.items ≡ l.count;
  reach : InReach l.starts → InReach l.places.items;
}

abbrev pub decreases-loop-i : goal.decreases-loop-i
decreases-loop-i l = l.i
