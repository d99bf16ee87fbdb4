use Rattle.std.proofs.Common.{◌≡◌, ◌+◌, length, drop}
use Rattle.trace_needs.specs.Asked.{need_told}
use Rattle.loc_state.specs.Steps.{in_part}
use Rattle.linear_scan.specs.Policy.{drop_all, operate_all}
use Rattle.linear_scan.proofs.policy.operate_all.Given as goal

abbrev pub invariant-loop-lir : goal.invariant-loop-lir
invariant-loop-lir l = record {
  index : l.index ≡ l.lir-index;
  at : l.at ≡ l.first + l.lir-index;
  row : length l.fw.part.regs ≡ length l.initial.fw.part.regs;
  step : in_part (operate_all (need_told l.positions) (drop_all (need_told l.positions)) l.at l.index (drop l.lir-index l.lirs)) l.fw ≡ in_part (operate_all (need_told l.positions) (drop_all (need_told l.positions)) l.first 0 l.lirs) l.initial.fw;
}
