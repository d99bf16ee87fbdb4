use Rattle.ob_eval.proofs.Pieces.{nothing_drained, all_drained}
use Rattle.ob_eval.proofs.machine.Machine.drain.Goals as goal

pub returns-then-written-lt-PIECE-clause-drained : goal.returns-then-written-lt-PIECE-clause-drained
returns-then-written-lt-PIECE-clause-drained g c = nothing_drained (g.O.Sink.account c.args.out.now) c.args.self.now

pub returns-in-Ok-clause-drained : goal.returns-in-Ok-clause-drained
returns-in-Ok-clause-drained g c = all_drained (g.O.Sink.account c.args.out.now) (g.O.Sink.account c.flush.new.out) c.args.self.now c.flush.new.self c.in-Ok.ensures.all c.in-Ok.ensures.rest
