use Rattle.std.proofs.Common.{◌≡◌, ◌≤◌, length, drop}
use Rattle.alloc_audit.specs.Holdings.{holdings_of, all_given}
use Rattle.alloc_audit.proofs.walk.Walk.give_all.Given as goal

abbrev pub invariant-loop-at : goal.invariant-loop-at
invariant-loop-at l = record {
  within : l.at ≤ length l.moves;
  holdings : holdings_of l.self ≡ all_given (drop l.at l.moves) (drop l.at l.given) (holdings_of l.initial.self);
  next : l.self.next ≡ l.initial.self.next;
  used : l.self.used ≡ l.initial.self.used;
}

abbrev pub decreases-loop-at : goal.decreases-loop-at
decreases-loop-at l = l.at
