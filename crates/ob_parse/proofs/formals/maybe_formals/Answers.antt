-- Each right side, put together from its parts.
use Rattle.parse_steps.proofs.Steps.{reads_some, reads_none, fails_some, gives_err}
use Rattle.ob_parse.proofs.formals.maybe_formals.Goals as goal

pub returns-in_err-formals : goal.returns-in_err-formals
returns-in_err-formals c = gives_err _ c.from_residual.result c.from_residual.ensures.1 (fails_some c.if-is_at.ensures.tells c.in_err-formals.ensures)

pub returns-in_ok-formals : goal.returns-in_ok-formals
returns-in_ok-formals c = reads_some c.if-is_at.ensures.tells c.in_ok-formals.ensures

pub returns-else-is_at : goal.returns-else-is_at
returns-else-is_at c = reads_none c.if-is_at.ensures.tells
