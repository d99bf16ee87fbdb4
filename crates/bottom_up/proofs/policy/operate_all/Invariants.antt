use Rattle.std.proofs.Common.{◌≡◌, ◌≤◌, ◌+◌, drop, length}
use Rattle.trace_needs.specs.Needs.{last_mention}
use Rattle.loc_back.specs.Steps.{in_part}
use Rattle.bottom_up.specs.Policy.{operate_all}
use Rattle.bottom_up.proofs.policy.operate_all.Given as goal

abbrev pub invariant-loop-left : goal.invariant-loop-left
invariant-loop-left l = record {
  within : l.left ≤ length l.lirs;
  step : l.b ≡ in_part (operate_all (last_mention l.initial.positions) (l.first + l.left) l.left (drop l.left l.lirs)) l.initial.b;
  same : l.positions ≡ l.initial.positions;
  row : length l.b.part.regs ≡ length l.initial.b.part.regs;
}

abbrev pub decreases-loop-left : goal.decreases-loop-left
decreases-loop-left l = l.left
