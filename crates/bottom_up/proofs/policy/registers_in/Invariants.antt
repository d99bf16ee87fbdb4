use Rattle.std.proofs.Common.{◌≡◌, map, take}
use Rattle.bottom_up.specs.Policy.{register_in}
use Rattle.bottom_up.proofs.policy.registers_in.Given as goal

abbrev pub invariant-loop-value : goal.invariant-loop-value
invariant-loop-value l = l.args.items ≡ map (register_in l.regs) (take l.value-index l.uses)
