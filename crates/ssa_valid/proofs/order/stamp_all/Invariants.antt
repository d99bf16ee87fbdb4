use Rattle.std.proofs.Common.{◌≡◌, drop}
use Rattle.ssa_valid.specs.Order.{all_stamped}
use Rattle.ssa_valid.proofs.order.stamp_all.Given as goal

abbrev pub invariant-loop-value : goal.invariant-loop-value
invariant-loop-value l = all_stamped l.stamps (drop l.value-index l.values) l.block ≡ all_stamped l.initial.stamps l.values l.block
