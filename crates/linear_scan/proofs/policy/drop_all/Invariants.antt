use Rattle.std.proofs.Common.{◌≡◌, length, drop}
use Rattle.trace_needs.specs.Asked.{need_told}
use Rattle.loc_state.specs.Steps.{in_part}
use Rattle.linear_scan.specs.Policy.{drop_all}
use Rattle.linear_scan.proofs.policy.drop_all.Given as goal

abbrev pub invariant-loop-value : goal.invariant-loop-value
invariant-loop-value l = record {
  row : length l.fw.part.regs ≡ length l.initial.fw.part.regs;
  step : in_part (drop_all (need_told l.positions) l.at (drop l.value-index l.values)) l.fw ≡ in_part (drop_all (need_told l.positions) l.at l.values) l.initial.fw;
}
