use Rattle.std.proofs.Common.{◌≡◌, map}
use Rattle.planned_image.specs.audited_allocations.Joined.{joined}
use Rattle.module_object.proofs.results.join_results.Given as goal

abbrev pub invariant-loop-own : goal.invariant-loop-own
invariant-loop-own l = l.all.items ≡ joined (map (λ v. v.items) l.yielded)
