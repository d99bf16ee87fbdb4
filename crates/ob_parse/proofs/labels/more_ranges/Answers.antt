-- Each right side, put together from its parts.
use Rattle.ob_syntax.specs.StatementText.{next_range_text}
use Rattle.parse_steps.proofs.Steps.{reads_then, fails_then, one_more, fails_round, rounds_over, gives_err}
use Rattle.ob_parse.proofs.labels.more_ranges.Goals as goal

pub returns-in_err-next : goal.returns-in_err-next
returns-in_err-next c = gives_err _ c.from_residual.result c.from_residual.ensures.1 (fails_round c.rounds.invariant c.in-Some.ensures.here (fails_then c.in-Some.ensures.read c.in_err-next.ensures))

pub rounds-preserved : goal.rounds-preserved
rounds-preserved c = one_more next_range_text _ _ _ c.in_ok-push.ensures.items c.rounds.invariant c.in-Some.ensures.here (reads_then c.in-Some.ensures.read c.in_ok-next.ensures)

pub returns : goal.returns
returns c = rounds_over c.rounds.invariant c.in_default.ensures.none c.in_default.ensures
