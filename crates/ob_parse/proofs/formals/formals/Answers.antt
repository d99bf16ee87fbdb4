-- Each right side, put together from its parts.
use Rattle.parse_steps.proofs.Steps.{reads_part, reads_then, fails_part, fails_first, fails_then, gives_err}
use Rattle.ob_parse.proofs.formals.formals.Goals as goal

pub returns-in_err-left_paren : goal.returns-in_err-left_paren
returns-in_err-left_paren c = gives_err _ c.from_residual.result c.from_residual.ensures.1 (fails_part (fails_first c.in_err-left_paren.ensures.gives))

pub returns-in_err-sections : goal.returns-in_err-sections
returns-in_err-sections c = gives_err _ c.from_residual-in_err-sections.result c.from_residual-in_err-sections.ensures.1 (fails_part (fails_then c.in_ok-left_paren.ensures.gives (fails_first c.in_err-sections.ensures)))

pub returns-in_err-right_paren : goal.returns-in_err-right_paren
returns-in_err-right_paren c = gives_err _ c.from_residual-in_err-right_paren.result c.from_residual-in_err-right_paren.ensures.1 (fails_part (fails_then c.in_ok-left_paren.ensures.gives (fails_then c.in_ok-sections.ensures (fails_first c.in_err-right_paren.ensures.gives))))

pub returns-in_err-result_type : goal.returns-in_err-result_type
returns-in_err-result_type c = gives_err _ c.from_residual-in_err-result_type.result c.from_residual-in_err-result_type.ensures.1 (fails_part (fails_then c.in_ok-left_paren.ensures.gives (fails_then c.in_ok-sections.ensures (fails_then c.in_ok-right_paren.ensures.gives c.in_err-result_type.ensures))))

pub returns : goal.returns
returns c = reads_part (reads_then c.in_ok-left_paren.ensures.gives (reads_then c.in_ok-sections.ensures (reads_then c.in_ok-right_paren.ensures.gives c.in_ok-result_type.ensures)))
