use Rattle.std.proofs.Common.{◌≡◌}
use Rattle.std.specs.Prelude.{filter, nat_le}
use Rattle.obj_link.proofs.own.take_own.Given as goal

abbrev pub invariant-loop-out : goal.invariant-loop-out
invariant-loop-out l = l.own.items ≡ filter (λ out. nat_le l.first out.trace) l.yielded
