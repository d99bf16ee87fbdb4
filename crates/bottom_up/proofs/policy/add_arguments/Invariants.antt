use Rattle.std.proofs.Common.{◌≡◌, drop, length}
use Rattle.bottom_up.specs.Policy.{with_arguments}
use Rattle.bottom_up.proofs.policy.add_arguments.Given as goal

abbrev pub invariant-loop-index : goal.invariant-loop-index
invariant-loop-index l = record {
  step : with_arguments l.index (drop l.index l.arguments) l.regs ≡ with_arguments 0 l.arguments l.initial.regs;
  row : length l.regs ≡ length l.initial.regs;
}
