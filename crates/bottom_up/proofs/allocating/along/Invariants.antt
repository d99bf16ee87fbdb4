use Rattle.std.proofs.Common.{◌≡◌, ◌≤◌, take, drop, length}
use Rattle.trace_needs.specs.Needs.{last_mention}
use Rattle.linear_scan.specs.Inputs.{case_of}
use Rattle.bottom_up.specs.Bottom.{along, behind_nodes}
use Rattle.bottom_up.proofs.allocating.along.Given as goal

abbrev pub invariant-loop-left : goal.invariant-loop-left
invariant-loop-left l = record {
  within : l.left ≤ length l.nodes;
  at : l.at ≡ behind_nodes l.t.flow.now.nodes 0 (take l.left l.nodes);
  step : l.b ≡ along (case_of l.t) (last_mention l.initial.positions) l.at (drop l.left l.nodes) l.initial.b;
  same : l.positions ≡ l.initial.positions;
  row : length l.b.part.regs ≡ length l.initial.b.part.regs;
}

abbrev pub decreases-loop-left : goal.decreases-loop-left
decreases-loop-left l = l.left
