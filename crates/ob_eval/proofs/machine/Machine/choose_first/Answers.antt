use Rattle.ob_eval.proofs.Steps.{choose_stops}
use Rattle.ob_eval.proofs.machine.Machine.choose_first.Goals as goal

pub returns-in-Err-clause-went : goal.returns-in-Err-clause-went
returns-in-Err-clause-went c = choose_stops c.args.laid.now c.args.first.now c.args.rest.now c.args.self.now c.take_number.new.self c.in-Err.stop c.in-Err.ensures
