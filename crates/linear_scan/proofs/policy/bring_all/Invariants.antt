use Rattle.std.proofs.Common.{◌≡◌, length, drop}
use Rattle.trace_needs.specs.Asked.{need_told}
use Rattle.loc_state.specs.Steps.{in_part}
use Rattle.linear_scan.specs.Policy.{bring_all}
use Rattle.linear_scan.proofs.policy.bring_all.Given as goal

abbrev pub invariant-loop-value : goal.invariant-loop-value
invariant-loop-value l = record {
  row : length l.fw.part.regs ≡ length l.initial.fw.part.regs;
  step : in_part (bring_all (need_told l.positions) l.at l.uses (drop l.value-index l.uses)) l.fw ≡ in_part (bring_all (need_told l.positions) l.at l.uses l.uses) l.initial.fw;
}
