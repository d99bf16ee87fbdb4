use Rattle.std.proofs.Common.{◌≡◌, map}
use Rattle.a64_select.specs.Selected.{lir_of}
use Rattle.a64_select.proofs.selecting.lirs_from.Given as goal

abbrev pub invariant-loop-op : goal.invariant-loop-op
invariant-loop-op l = l.lirs.items ≡ map lir_of l.yielded
