-- Each right side, put together from its parts.
use Rattle.parse_steps.proofs.Steps.{fails_inside, reads_inside, gives_err}
use Rattle.ob_parse.proofs.types.procedure_type.Goals as goal

pub returns-in_err-procedure_word : goal.returns-in_err-procedure_word
returns-in_err-procedure_word c = gives_err _ c.from_residual.result c.from_residual.ensures.1 (c.in_err-procedure_word.ensures _)

pub returns-in_err-formals : goal.returns-in_err-formals
returns-in_err-formals c = gives_err _ c.from_residual-in_err-formals.result c.from_residual-in_err-formals.ensures.1 (fails_inside c.in_ok-procedure_word.ensures c.in_err-formals.ensures)

pub returns : goal.returns
returns c = reads_inside _ c.in_ok-procedure_word.ensures c.in_ok-formals.ensures c.leave.ensures
