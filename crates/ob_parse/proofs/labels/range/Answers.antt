-- Each right side, put together from its parts.
use Rattle.parse_steps.proofs.Steps.{reads_part, reads_then, fails_part, fails_first, fails_then, gives_err}
use Rattle.ob_parse.proofs.labels.range.Goals as goal

pub returns-in_err-low : goal.returns-in_err-low
returns-in_err-low c = gives_err _ c.from_residual.result c.from_residual.ensures.1 (fails_part (fails_first c.in_err-low.ensures))

pub returns-in_err-high : goal.returns-in_err-high
returns-in_err-high c = gives_err _ c.from_residual-in_err-high.result c.from_residual-in_err-high.ensures.1 (fails_part (fails_then c.in_ok-low.ensures c.in_err-high.ensures))

pub returns : goal.returns
returns c = reads_part (reads_then c.in_ok-low.ensures c.in_ok-high.ensures)
