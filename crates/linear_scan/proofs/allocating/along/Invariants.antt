use Rattle.std.proofs.Common.{◌≡◌, ◌<◌, length, drop}
use Rattle.trace_needs.specs.Asked.{need_told}
use Rattle.linear_scan.specs.Policy.{drop_all}
use Rattle.linear_scan.specs.Linear.{along}
use Rattle.linear_scan.specs.Inputs.{case_of}
use Rattle.linear_scan.proofs.allocating.along.Given as goal

abbrev pub invariant-loop-i : goal.invariant-loop-i
invariant-loop-i l = record {
  row : l.i < length l.nodes → length l.fw.part.regs ≡ length l.initial.fw.part.regs;
  step : along (case_of l.t) (need_told l.positions) (drop_all (need_told l.positions)) l.at (drop l.i l.nodes) l.fw ≡ along (case_of l.t) (need_told l.positions) (drop_all (need_told l.positions)) 0 l.nodes l.initial.fw;
}
