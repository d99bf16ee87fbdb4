use Rattle.std.proofs.Common.{◌≡◌, drop}
use Rattle.lir_core.specs.Spots.{in_register}
use Rattle.loc_state.proofs.registers.has_register.Given as goal

abbrev pub invariant-loop-content : goal.invariant-loop-content
invariant-loop-content l = in_register (drop l.content-index l.regs) l.value ≡ in_register l.regs l.value
