-- Each right side, put together from its parts.
use Rattle.parse_steps.proofs.Steps.{reads_then, fails_first, fails_then, gives_err}
use Rattle.ob_parse.proofs.declarations.var_decl.Goals as goal

pub returns-in_err-names-clause-gives : goal.returns-in_err-names-clause-gives
returns-in_err-names-clause-gives c = gives_err _ c.from_residual.result c.from_residual.ensures.1 (fails_first c.in_err-names.ensures.gives)

pub returns-in_err-colon-clause-gives : goal.returns-in_err-colon-clause-gives
returns-in_err-colon-clause-gives c = gives_err _ c.from_residual-in_err-colon.result c.from_residual-in_err-colon.ensures.1 (fails_then c.in_ok-names.ensures.gives (fails_first c.in_err-colon.ensures.gives))

pub returns-in_err-of-clause-gives : goal.returns-in_err-of-clause-gives
returns-in_err-of-clause-gives c = gives_err _ c.from_residual-in_err-of.result c.from_residual-in_err-of.ensures.1 (fails_then c.in_ok-names.ensures.gives (fails_then c.in_ok-colon.ensures.gives (fails_first c.in_err-of.ensures)))

pub returns-in_err-semicolon-clause-gives : goal.returns-in_err-semicolon-clause-gives
returns-in_err-semicolon-clause-gives c = gives_err _ c.from_residual-in_err-semicolon.result c.from_residual-in_err-semicolon.ensures.1 (fails_then c.in_ok-names.ensures.gives (fails_then c.in_ok-colon.ensures.gives (fails_then c.in_ok-of.ensures c.in_err-semicolon.ensures.gives)))

pub returns-clause-gives : goal.returns-clause-gives
returns-clause-gives c = reads_then c.in_ok-names.ensures.gives (reads_then c.in_ok-colon.ensures.gives (reads_then c.in_ok-of.ensures c.in_ok-semicolon.ensures.gives))
