use Rattle.std.proofs.Common.{◌≡◌, drop}
use Rattle.ssa_assigned.specs.Numbers.{put_all}
use Rattle.ssa_assigned.proofs.branches.put.Given as goal

abbrev pub invariant-loop-x : goal.invariant-loop-x
invariant-loop-x l = put_all l.number (drop l.x-index l.found) l.list.items ≡ put_all l.number l.found l.initial.list.items
