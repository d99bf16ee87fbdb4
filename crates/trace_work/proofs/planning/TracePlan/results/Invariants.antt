use Rattle.std.proofs.Common.{◌≡◌, length}
use Rattle.trace_work.specs.Plans.{AreFinalsTo, IsPlan}
use Rattle.trace_work.proofs.planning.TracePlan.results.Given as goal

abbrev pub invariant-loop-number : goal.invariant-loop-number
invariant-loop-number l = record {
  count : length l.outs.items ≡ l.number;
  finals : IsPlan l.choice.builder l.self → AreFinalsTo l.choice l.self l.number l.outs.items;
}
