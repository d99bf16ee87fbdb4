use Rattle.parallel_move.proofs.Along.{along_step, along_smaller, along_done}
use Rattle.parallel_move.proofs.ordering.make_along.Goals as goal

pub loop-i-smaller : goal.loop-i-smaller
loop-i-smaller c = along_smaller c.args.first c.loop-i.next c.args.bound c.in-Some.i c.args.entries.now c.loop-i.entries c.make.new.entries c.args.steps.now.items c.loop-i.steps.items c.loop-i.invariant c.requires c.in-Some.ensures c.in_ok-make.ensures.entries

pub loop-i-preserved : goal.loop-i-preserved
loop-i-preserved c = along_step c.args.first c.loop-i.next c.args.bound c.in-Some.i c.args.entries.now c.loop-i.entries c.make.new.entries c.args.steps.now.items c.loop-i.steps.items c.make.new.steps.items c.loop-i.invariant c.requires c.in-Some.ensures c.in_ok-make.ensures.entries c.in_ok-make.ensures.steps

pub returns-clause-steps : goal.returns-clause-steps
returns-clause-steps c = along_done c.args.first c.loop-i.next c.args.bound c.args.entries.now c.loop-i.entries c.args.steps.now.items c.loop-i.steps.items c.loop-i.invariant c.in_default.ensures
