-- Each right side, put together from its parts.
use Rattle.parse_steps.proofs.Steps.{reads_part, reads_then, fails_part, fails_first, fails_then, gives_err, maybe_terminal}
use Rattle.ob_parse.proofs.formals.section.Goals as goal

pub returns-in_err-first : goal.returns-in_err-first
returns-in_err-first c = gives_err _ c.from_residual.result c.from_residual.ensures.1 (fails_part (fails_then (maybe_terminal _ c.take-var_word.ensures) (fails_first c.in_err-first.ensures.gives)))

pub returns-in_err-more : goal.returns-in_err-more
returns-in_err-more c = gives_err _ c.from_residual-in_err-more.result c.from_residual-in_err-more.ensures.1 (fails_part (fails_then (maybe_terminal _ c.take-var_word.ensures) (fails_then c.in_ok-first.ensures.gives (fails_first c.in_err-more.ensures))))

pub returns-in_err-colon : goal.returns-in_err-colon
returns-in_err-colon c = gives_err _ c.from_residual-in_err-colon.result c.from_residual-in_err-colon.ensures.1 (fails_part (fails_then (maybe_terminal _ c.take-var_word.ensures) (fails_then c.in_ok-first.ensures.gives (fails_then c.in_ok-more.ensures (fails_first c.in_err-colon.ensures.gives)))))

pub returns-in_err-open_array : goal.returns-in_err-open_array
returns-in_err-open_array c = gives_err _ c.from_residual-in_err-open_array.result c.from_residual-in_err-open_array.ensures.1 (fails_part (fails_then (maybe_terminal _ c.take-var_word.ensures) (fails_then c.in_ok-first.ensures.gives (fails_then c.in_ok-more.ensures (fails_then c.in_ok-colon.ensures.gives (fails_first c.in_err-open_array.ensures))))))

pub returns-in_err-of : goal.returns-in_err-of
returns-in_err-of c = gives_err _ c.from_residual-in_err-of.result c.from_residual-in_err-of.ensures.1 (fails_part (fails_then (maybe_terminal _ c.take-var_word.ensures) (fails_then c.in_ok-first.ensures.gives (fails_then c.in_ok-more.ensures (fails_then c.in_ok-colon.ensures.gives (fails_then c.in_ok-open_array.ensures c.in_err-of.ensures))))))

pub returns : goal.returns
returns c = reads_part (reads_then (maybe_terminal _ c.take-var_word.ensures) (reads_then c.in_ok-first.ensures.gives (reads_then c.in_ok-more.ensures (reads_then c.in_ok-colon.ensures.gives (reads_then c.in_ok-open_array.ensures c.in_ok-of.ensures)))))
