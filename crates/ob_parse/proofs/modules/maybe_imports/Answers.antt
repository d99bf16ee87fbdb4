-- Each right side, put together from its parts.
use Rattle.parse_steps.proofs.Steps.{reads_then, reads_some, fails_first, fails_then, fails_some, gives_err, left_out}
use Rattle.ob_parse.proofs.modules.maybe_imports.Goals as goal

pub returns-in_err-first-in-Some : goal.returns-in_err-first-in-Some
returns-in_err-first-in-Some c = gives_err _ c.from_residual.result c.from_residual.ensures.1 (fails_some c.in-Some.ensures.here (fails_then c.in-Some.ensures.read (fails_first c.in_err-first-in-Some.ensures)))

pub returns-in_err-more-in-Some : goal.returns-in_err-more-in-Some
returns-in_err-more-in-Some c = gives_err _ c.from_residual-in_err-more-in-Some.result c.from_residual-in_err-more-in-Some.ensures.1 (fails_some c.in-Some.ensures.here (fails_then c.in-Some.ensures.read (fails_then c.in_ok-first-in-Some.ensures (fails_first c.in_err-more-in-Some.ensures))))

pub returns-in_err-semicolon-in-Some : goal.returns-in_err-semicolon-in-Some
returns-in_err-semicolon-in-Some c = gives_err _ c.from_residual-in_err-semicolon-in-Some.result c.from_residual-in_err-semicolon-in-Some.ensures.1 (fails_some c.in-Some.ensures.here (fails_then c.in-Some.ensures.read (fails_then c.in_ok-first-in-Some.ensures (fails_then c.in_ok-more-in-Some.ensures c.in_err-semicolon-in-Some.ensures.gives))))

pub returns-in-None : goal.returns-in-None
returns-in-None c = left_out c.in-None.ensures.none c.in-None.ensures

pub returns-in_ok-semicolon-in-Some : goal.returns-in_ok-semicolon-in-Some
returns-in_ok-semicolon-in-Some c = reads_some c.in-Some.ensures.here (reads_then c.in-Some.ensures.read (reads_then c.in_ok-first-in-Some.ensures (reads_then c.in_ok-more-in-Some.ensures c.in_ok-semicolon-in-Some.ensures.gives)))
