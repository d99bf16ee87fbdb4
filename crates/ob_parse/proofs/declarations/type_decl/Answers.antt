-- Each right side, put together from its parts.
use Rattle.parse_steps.proofs.Steps.{reads_then, fails_first, fails_then, gives_err}
use Rattle.ob_parse.proofs.declarations.type_decl.Goals as goal

pub returns-in_err-name-clause-gives : goal.returns-in_err-name-clause-gives
returns-in_err-name-clause-gives c = gives_err _ c.from_residual.result c.from_residual.ensures.1 (fails_first c.in_err-name.ensures.gives)

pub returns-in_err-equal-clause-gives : goal.returns-in_err-equal-clause-gives
returns-in_err-equal-clause-gives c = gives_err _ c.from_residual-in_err-equal.result c.from_residual-in_err-equal.ensures.1 (fails_then c.in_ok-name.ensures.gives (fails_first c.in_err-equal.ensures.gives))

pub returns-in_err-is-clause-gives : goal.returns-in_err-is-clause-gives
returns-in_err-is-clause-gives c = gives_err _ c.from_residual-in_err-is.result c.from_residual-in_err-is.ensures.1 (fails_then c.in_ok-name.ensures.gives (fails_then c.in_ok-equal.ensures.gives (fails_first c.in_err-is.ensures)))

pub returns-in_err-semicolon-clause-gives : goal.returns-in_err-semicolon-clause-gives
returns-in_err-semicolon-clause-gives c = gives_err _ c.from_residual-in_err-semicolon.result c.from_residual-in_err-semicolon.ensures.1 (fails_then c.in_ok-name.ensures.gives (fails_then c.in_ok-equal.ensures.gives (fails_then c.in_ok-is.ensures c.in_err-semicolon.ensures.gives)))

pub returns-clause-gives : goal.returns-clause-gives
returns-clause-gives c = reads_then c.in_ok-name.ensures.gives (reads_then c.in_ok-equal.ensures.gives (reads_then c.in_ok-is.ensures c.in_ok-semicolon.ensures.gives))
