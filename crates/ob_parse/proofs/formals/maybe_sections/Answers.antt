-- Each right side, put together from its parts.
use Rattle.parse_steps.proofs.Steps.{reads_then, reads_some, reads_none, fails_first, fails_then, fails_some, gives_err}
use Rattle.ob_parse.proofs.formals.maybe_sections.Goals as goal

pub returns-in_err-first : goal.returns-in_err-first
returns-in_err-first c = gives_err _ c.from_residual.result c.from_residual.ensures.1 (fails_some c.if-begins_section.ensures (fails_first c.in_err-first.ensures))

pub returns-in_err-more : goal.returns-in_err-more
returns-in_err-more c = gives_err _ c.from_residual-in_err-more.result c.from_residual-in_err-more.ensures.1 (fails_some c.if-begins_section.ensures (fails_then c.in_ok-first.ensures c.in_err-more.ensures))

pub returns-in_ok-more : goal.returns-in_ok-more
returns-in_ok-more c = reads_some c.if-begins_section.ensures (reads_then c.in_ok-first.ensures c.in_ok-more.ensures)

pub returns-else-begins_section : goal.returns-else-begins_section
returns-else-begins_section c = reads_none c.if-begins_section.ensures
