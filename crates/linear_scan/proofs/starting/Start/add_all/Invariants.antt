use Rattle.std.proofs.Common.{◌≡◌, length, drop}
use Rattle.trace_needs.specs.Asked.{need_told}
use Rattle.linear_scan.specs.Policy.{from}
use Rattle.linear_scan.specs.Starts.{with_params}
use Rattle.linear_scan.specs.Made.{made}
use Rattle.linear_scan.proofs.starting.Start.add_all.Given as goal

abbrev pub invariant-loop-i : goal.invariant-loop-i
invariant-loop-i l = record {
  row : length l.self.regs.items ≡ length l.initial.self.regs.items;
  step : with_params (from (need_told l.positions) l.at) l.hint l.arguments l.i (drop l.i l.params) (made l.self) ≡ with_params (from (need_told l.positions) l.at) l.hint l.arguments 0 l.params (made l.initial.self);
}
