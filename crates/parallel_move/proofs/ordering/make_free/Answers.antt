use Rattle.std.proofs.Common.{arith}
use Rattle.parallel_move.proofs.Along.{freed_step, freed_done}
use Rattle.parallel_move.proofs.ordering.make_free.Goals as goal

pub loop-i-preserved : goal.loop-i-preserved
loop-i-preserved c = freed_step c.loop-i.i c.args.entries.now c.loop-i.entries c.make_along.new.entries c.args.steps.now.items c.loop-i.steps.items c.make_along.new.steps.items c.loop-i.invariant c.in_ok-make_along.ensures.made c.in_ok-make_along.ensures.steps

pub returns-clause-steps : goal.returns-clause-steps
returns-clause-steps c = freed_done c.loop-i.i c.args.entries.now c.loop-i.entries c.args.steps.now.items c.loop-i.steps.items c.loop-i.invariant (omega arith)
