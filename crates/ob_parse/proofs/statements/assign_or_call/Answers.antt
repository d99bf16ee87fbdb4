-- Each right side, put together from its parts.
use Rattle.parse_steps.proofs.Steps.{reads_then, fails_first, fails_then, gives_err}
use Rattle.ob_parse.proofs.statements.assign_or_call.Goals as goal

pub returns-in_err-designator : goal.returns-in_err-designator
returns-in_err-designator c = gives_err _ c.from_residual.result c.from_residual.ensures.1 (fails_first c.in_err-designator.ensures)

pub returns-in_err-assigned : goal.returns-in_err-assigned
returns-in_err-assigned c = gives_err _ c.from_residual-in_err-assigned.result c.from_residual-in_err-assigned.ensures.1 (fails_then c.in_ok-designator.ensures c.in_err-assigned.ensures)

pub returns : goal.returns
returns c = reads_then c.in_ok-designator.ensures c.in_ok-assigned.ensures
