use Rattle.batch_serve.specs.Desks.{number_of}
use Rattle.batch_serve.specs.Puts.{HasPut}
use Rattle.batch_serve.proofs.submitting.submit.Given as goal

abbrev pub invariant-loop : goal.invariant-loop
invariant-loop g l = HasPut l.desk l.sender (number_of l.fn.sender) l.jobs
