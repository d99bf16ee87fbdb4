-- Each right side, put together from its parts.
use Rattle.parse_steps.proofs.Steps.{reads_then, reads_some, fails_then, fails_some, gives_err, left_out}
use Rattle.ob_parse.proofs.formals.result_type.Goals as goal

pub returns-in_err-name-in-Some : goal.returns-in_err-name-in-Some
returns-in_err-name-in-Some c = gives_err _ c.from_residual.result c.from_residual.ensures.1 (fails_some c.in-Some.ensures.here (fails_then c.in-Some.ensures.read c.in_err-name-in-Some.ensures))

pub returns-in-None : goal.returns-in-None
returns-in-None c = left_out c.in-None.ensures.none c.in-None.ensures

pub returns-in_ok-name-in-Some : goal.returns-in_ok-name-in-Some
returns-in_ok-name-in-Some c = reads_some c.in-Some.ensures.here (reads_then c.in-Some.ensures.read c.in_ok-name-in-Some.ensures)
