use Rattle.std.proofs.Common.{◌≡◌, ◌∷◌, take}
use Rattle.check_making.proofs.new_types.records.with_front.Given as goal

abbrev pub invariant-loop-n : goal.invariant-loop-n
invariant-loop-n l = l.all.items ≡ l.first ∷ take l.n-index l.rest
