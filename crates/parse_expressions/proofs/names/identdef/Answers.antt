-- Each right side, put together from its parts.
use Rattle.parse_steps.proofs.Steps.{reads_part, reads_then, fails_part, fails_first, gives_err, maybe_terminal}
use Rattle.parse_expressions.proofs.names.identdef.Goals as goal

pub returns-in_err-name-clause-gives : goal.returns-in_err-name-clause-gives
returns-in_err-name-clause-gives c = gives_err _ c.from_residual.result c.from_residual.ensures.1 (fails_part (fails_first c.in_err-name.ensures.gives))

pub returns-clause-gives : goal.returns-clause-gives
returns-clause-gives c = reads_part (reads_then c.in_ok-name.ensures.gives (maybe_terminal _ c.take-star.ensures))
