-- Each right side, put together from its parts.
use Rattle.parse_steps.proofs.Steps.{reads_then, fails_first, fails_then, gives_err}
use Rattle.parse_expressions.proofs.expressions.field.Goals as goal

pub returns-in_err-period-clause-gives : goal.returns-in_err-period-clause-gives
returns-in_err-period-clause-gives c = gives_err _ c.from_residual.result c.from_residual.ensures.1 (fails_first c.in_err-period.ensures.gives)

pub returns-in_err-name-clause-gives : goal.returns-in_err-name-clause-gives
returns-in_err-name-clause-gives c = gives_err _ c.from_residual-in_err-name.result c.from_residual-in_err-name.ensures.1 (fails_then c.in_ok-period.ensures.gives c.in_err-name.ensures.gives)

pub returns-clause-gives : goal.returns-clause-gives
returns-clause-gives c = reads_then c.in_ok-period.ensures.gives c.in_ok-name.ensures.gives
