-- Each right side, put together from its parts.
use Rattle.ob_syntax.specs.NameText.{next_identdef_text}
use Rattle.parse_steps.proofs.Steps.{reads_part, reads_then, fails_part, fails_first, fails_then, one_more, fails_round, rounds_over, gives_err}
use Rattle.parse_expressions.proofs.names.idents.Goals as goal

pub returns-in_err-first-clause-gives : goal.returns-in_err-first-clause-gives
returns-in_err-first-clause-gives c = gives_err _ c.from_residual.result c.from_residual.ensures.1 (fails_part (fails_first c.in_err-first.ensures.gives))

pub returns-in_err-name-clause-gives : goal.returns-in_err-name-clause-gives
returns-in_err-name-clause-gives c = gives_err _ c.from_residual-in_err-name.result c.from_residual-in_err-name.ensures.1 (fails_part (fails_then c.in_ok-first.ensures.gives (fails_round c.rounds.invariant c.in-Some.ensures.here (fails_then c.in-Some.ensures.read c.in_err-name.ensures.gives))))

pub rounds-preserved : goal.rounds-preserved
rounds-preserved c = one_more next_identdef_text _ _ _ c.in_ok-push.ensures.items c.rounds.invariant c.in-Some.ensures.here (reads_then c.in-Some.ensures.read c.in_ok-name.ensures.gives)

pub returns-clause-gives : goal.returns-clause-gives
returns-clause-gives c = reads_part (reads_then c.in_ok-first.ensures.gives (rounds_over c.rounds.invariant c.in_default.ensures.none c.in_default.ensures))
