use Rattle.std.proofs.Common.{refl}
use Rattle.ob_eval.proofs.Taking.{took_no_limit, took_no_variable, took_no_address, took_limit}
use Rattle.ob_eval.proofs.machine.Machine.take_limit.Goals as goal

pub returns-in-Err : goal.returns-in-Err
returns-in-Err c = took_no_limit c.args.self.now c.take_number.new.self c.in-Err.stop c.in-Err.ensures

pub returns-in-Err-take : goal.returns-in-Err-take
returns-in-Err-take c = took_no_variable c.args.self.now c.take_number.new.self c.in-Ok.value c.in-Ok.ensures c.take.new.self c.in-Err-take.stop c.in-Err-take.ensures

pub returns-in-Some : goal.returns-in-Some
returns-in-Some c = took_limit c.args.self.now c.take_number.new.self c.in-Ok.value c.in-Ok.ensures c.take.new.self c.in-Ok-take.handed c.in-Ok-take.ensures (record { value = c.in-Ok.value; variable = c.in-Some.variable }) refl c.in-Some.ensures.some

pub returns-in-None : goal.returns-in-None
returns-in-None c = took_no_address c.args.self.now c.take_number.new.self c.in-Ok.value c.in-Ok.ensures c.take.new.self c.in-Ok-take.handed c.in-Ok-take.ensures c.in-None.ensures.none
