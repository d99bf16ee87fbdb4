use Rattle.std.proofs.Common.{◌≡◌, drop, None}
use Rattle.trace_needs.specs.Needs.{last_mention}
use Rattle.bottom_up.specs.Policy.{before, earliest}
use Rattle.bottom_up.proofs.choosing.victim.Given as goal

abbrev pub invariant-loop-content : goal.invariant-loop-content
invariant-loop-content l = record {
  reg : l.reg ≡ l.content-index;
  best : earliest l.keep (before (last_mention l.initial.positions) l.at) l.reg (drop l.content-index l.regs) l.best ≡ earliest l.keep (before (last_mention l.initial.positions) l.at) 0 l.regs None;
  same : l.positions ≡ l.initial.positions;
}
