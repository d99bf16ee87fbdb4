use Rattle.std.proofs.Common.{subst}
use Rattle.outside.specs.Sink.{TookAll, TookFront}
use Rattle.ob_eval.proofs.machine.Machine.flush.Goals as goal

pub returns-in-Ok-clause-all : goal.returns-in-Ok-clause-all
returns-in-Ok-clause-all g c = subst (TookAll (g.O.Sink.account c.args.out.now) (g.O.Sink.account c.write_all.new.sink)) c.written.ensures c.in-Ok.ensures.all

pub returns-in-Err-clause-front : goal.returns-in-Err-clause-front
returns-in-Err-clause-front g c = subst (TookFront (g.O.Sink.account c.args.out.now) (g.O.Sink.account c.write_all.new.sink)) c.written.ensures c.in-Err.ensures.front
