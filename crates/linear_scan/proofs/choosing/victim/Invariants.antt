use Rattle.std.proofs.Common.{◌≡◌, ◌<◌, length, drop, None}
use Rattle.trace_needs.specs.Asked.{need_told}
use Rattle.linear_scan.specs.Policy.{from, reg_of, farthest}
use Rattle.linear_scan.proofs.choosing.victim.Given as goal

abbrev pub invariant-loop-content : goal.invariant-loop-content
invariant-loop-content l = record {
  reg : l.reg ≡ l.content-index;
  below : reg_of l.best < length l.regs;
  best : farthest l.keep (from (need_told l.positions) l.at) l.reg (drop l.content-index l.regs) l.best ≡ farthest l.keep (from (need_told l.positions) l.at) 0 l.regs None;
}
