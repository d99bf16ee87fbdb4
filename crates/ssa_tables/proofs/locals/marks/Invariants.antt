use Rattle.std.proofs.Common.{◌≡◌, drop, replicate, false}
use Rattle.ssa_tables.specs.Local.{marked}
use Rattle.ssa_tables.proofs.locals.marks.Given as goal

abbrev pub invariant-loop-x : goal.invariant-loop-x
invariant-loop-x l = marked (drop l.x-index l.lent) l.list.items ≡ marked l.lent (replicate l.count false)
