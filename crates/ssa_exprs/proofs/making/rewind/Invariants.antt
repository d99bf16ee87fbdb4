use Rattle.std.proofs.Common.{◌≡◌, drop, take, length}
use Rattle.ssa_exprs.specs.Changes.{undone}
use Rattle.ssa_exprs.proofs.making.rewind.Given as goal

abbrev pub invariant-loop-log : goal.invariant-loop-log
invariant-loop-log l = record {
  env : undone (drop l.moment l.log.items) l.env.items ≡ undone (drop l.moment l.initial.log.items) l.initial.env.items;
  log : take l.moment l.log.items ≡ take l.moment l.initial.log.items;
}

abbrev pub decreases-loop-log : goal.decreases-loop-log
decreases-loop-log l = length l.log.items
