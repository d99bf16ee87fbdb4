use Rattle.ob_eval.proofs.Starting.{begins}
use Rattle.ob_eval.proofs.evaluation.started.Goals as goal

pub returns : goal.returns
returns c = begins c.args.laid.now c.args.turns c.args.input.now c.in_ok-bytes.bytes.items c.in_ok-globals.globals c.in_ok-strings.strings c.in_ok-tasks.tasks c.no_call.result c.new.result c.new-2.result c.in_ok-tasks.ensures c.new-2.ensures c.in_ok-globals.ensures c.in_ok-strings.ensures c.in_ok-bytes.ensures.items
