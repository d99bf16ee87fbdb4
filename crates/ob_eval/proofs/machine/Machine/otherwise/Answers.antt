use Rattle.ob_eval.proofs.Steps.{otherwise_stops}
use Rattle.ob_eval.proofs.machine.Machine.otherwise.Goals as goal

pub returns-in-Err-clause-went : goal.returns-in-Err-clause-went
returns-in-Err-clause-went c = otherwise_stops c.args.laid.now c.args.all.now c.args.self.now c.take_number.new.self c.in-Err.stop c.in-Err.ensures
