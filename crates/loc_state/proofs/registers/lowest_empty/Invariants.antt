use Rattle.std.proofs.Common.{◌≡◌, drop}
use Rattle.loc_state.specs.Registers.{lowest_empty}
use Rattle.loc_state.proofs.registers.lowest_empty.Given as goal

abbrev pub invariant-loop-content : goal.invariant-loop-content
invariant-loop-content l = (l.reg ≡ l.content-index) × (lowest_empty l.reg (drop l.content-index l.regs) ≡ lowest_empty 0 l.regs)
