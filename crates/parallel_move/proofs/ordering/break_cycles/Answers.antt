use Rattle.std.proofs.Common.{arith, ap}
use Rattle.parallel_move.proofs.Along.{broken_on, broken_step, joined, all_done}
use Rattle.parallel_move.proofs.ordering.break_cycles.Goals.{then-not-entries-i+in_ok-break_cycle, else-not-entries-i}
use Rattle.parallel_move.proofs.ordering.break_cycles.Goals as goal

pub loop-i-preserved : goal.loop-i-preserved
loop-i-preserved c = elim c.if-not-entries-i.branch [
  | then-not-entries-i+in_ok-break_cycle w ↦ joined _ _ w.break_cycle.new.entries _ _ w.break_cycle.new.steps.items _ w.entries-is (ap (λ v. v.items) w.steps-is) (broken_step c.loop-i.i c.args.entries.now c.loop-i.entries w.break_cycle.new.entries c.args.steps.now.items c.loop-i.steps.items w.break_cycle.new.steps.items c.loop-i.invariant w.if-not-entries-i.true w.in_ok-break_cycle.ensures.made.0 w.in_ok-break_cycle.ensures.made.1 w.in_ok-break_cycle.ensures.steps)
  | else-not-entries-i w ↦ joined _ _ c.loop-i.entries _ _ c.loop-i.steps.items _ w.entries-is (ap (λ v. v.items) w.steps-is) (broken_on c.loop-i.i c.args.entries.now c.loop-i.entries c.args.steps.now.items c.loop-i.steps.items c.loop-i.invariant w.if-not-entries-i.false)
]

pub returns : goal.returns
returns c = all_done c.loop-i.i c.args.entries.now c.loop-i.entries c.args.steps.now.items c.loop-i.steps.items c.loop-i.invariant (omega arith)
