-- Each right side, put together from its parts.
use Rattle.parse_steps.proofs.Steps.{reads_part, reads_then, fails_part, fails_first, fails_then, gives_err}
use Rattle.ob_parse.proofs.modules.import.Goals as goal

pub returns-in_err-name : goal.returns-in_err-name
returns-in_err-name c = gives_err _ c.from_residual.result c.from_residual.ensures.1 (fails_part (fails_first c.in_err-name.ensures.gives))

pub returns-in_err-of : goal.returns-in_err-of
returns-in_err-of c = gives_err _ c.from_residual-in_err-of.result c.from_residual-in_err-of.ensures.1 (fails_part (fails_then c.in_ok-name.ensures.gives c.in_err-of.ensures))

pub returns : goal.returns
returns c = reads_part (reads_then c.in_ok-name.ensures.gives c.in_ok-of.ensures)
