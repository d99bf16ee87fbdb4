use Rattle.std.proofs.Common.{◌≡◌, ◌-◌, length}
use Rattle.trace_work.proofs.Made.{Made}
use Rattle.trace_work.proofs.work.TraceWork.new.Given as goal

abbrev pub invariant-loop-flow : goal.invariant-loop-flow
invariant-loop-flow l = record {
  most : l.most ≡ 262144 - l.before;
  end : l.flow-index-end ≡ length l.flows;
  made : Made l.choice.builder l.before l.flows l.flow-index l.plans.items l.entries.items;
}
