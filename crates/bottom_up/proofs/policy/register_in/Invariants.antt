use Rattle.std.proofs.Common.{◌≡◌, ◌+◌, drop}
use Rattle.lir_core.specs.Spots.{in_register}
use Rattle.loc_state.specs.Registers.{register_of}
use Rattle.bottom_up.proofs.policy.register_in.Given as goal

abbrev pub invariant-loop-content : goal.invariant-loop-content
invariant-loop-content l = record {
  reg : l.reg ≡ l.content-index;
  first : register_of l.value l.regs ≡ l.reg + register_of l.value (drop l.content-index l.regs);
  rest : in_register l.regs l.value ≡ in_register (drop l.content-index l.regs) l.value;
}
