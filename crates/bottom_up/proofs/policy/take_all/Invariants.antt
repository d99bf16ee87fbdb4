use Rattle.std.proofs.Common.{◌≡◌, drop, length}
use Rattle.trace_needs.specs.Needs.{last_mention}
use Rattle.loc_back.specs.Steps.{in_part}
use Rattle.bottom_up.specs.Policy.{take_all}
use Rattle.bottom_up.proofs.policy.take_all.Given as goal

abbrev pub invariant-loop-value : goal.invariant-loop-value
invariant-loop-value l = record {
  step : in_part (take_all (last_mention l.initial.positions) l.at l.uses (drop l.value-index l.uses)) l.b ≡ in_part (take_all (last_mention l.initial.positions) l.at l.uses l.uses) l.initial.b;
  same : l.positions ≡ l.initial.positions;
  row : length l.b.part.regs ≡ length l.initial.b.part.regs;
}
