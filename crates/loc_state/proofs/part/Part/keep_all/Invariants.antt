use Rattle.std.proofs.Common.{◌≡◌, drop}
use Rattle.loc_state.specs.Steps.{keeps_all}
use Rattle.loc_state.proofs.part.Part.keep_all.Given as goal

abbrev pub invariant-loop-reg : goal.invariant-loop-reg
invariant-loop-reg l = record {
  regs : l.self.regs ≡ l.initial.self.regs;
  kept : keeps_all l.keep l.reg (drop l.reg l.self.regs) l.self ≡ keeps_all l.keep 0 l.initial.self.regs l.initial.self;
}
