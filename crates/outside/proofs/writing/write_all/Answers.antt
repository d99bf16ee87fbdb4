use Rattle.std.proofs.Common.{arith}
use Rattle.outside.proofs.Taking.{all_none, all_more, front_taken, front_taken_and_none}
use Rattle.outside.proofs.writing.write_all.Goals as goal

pub loop-done-init : goal.loop-done-init
loop-done-init g c = record { within = omega arith; took = all_none _; rises = omega arith }

pub returns-in-Ok-eq0-clause-front : goal.returns-in-Ok-eq0-clause-front
returns-in-Ok-eq0-clause-front g c = front_taken_and_none _ _ _ c.loop-done.done _ c.args.bytes.now _ c.loop-done.invariant.took c.in-Ok-eq0.ensures.takes c.in-Ok-eq0.field-0-test

pub loop-done-preserved : goal.loop-done-preserved
loop-done-preserved g c = record {
  within = omega (arith, c.in-Ok.ensures.within);
  took = all_more _ _ _ c.loop-done.done c.in-Ok.n c.args.bytes.now c.loop-done.invariant.took c.in-Ok.ensures.takes;
  rises = omega (arith, c.in-Ok.ensures.rises);
}

pub returns-in-Err-clause-front : goal.returns-in-Err-clause-front
returns-in-Err-clause-front g c = front_taken _ _ _ c.loop-done.done c.args.bytes.now c.loop-done.invariant.took c.in-Err.ensures.stays
