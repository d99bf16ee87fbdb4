-- Each right side, put together from its parts.
use Rattle.ob_syntax.specs.DeclarationText.{var_decl_text}
use Rattle.parse_steps.proofs.Steps.{one_more, end_rounds, fails_round, gives_err}
use Rattle.ob_parse.proofs.declarations.each_var_decl.Goals as goal

pub returns-in_err-next : goal.returns-in_err-next
returns-in_err-next c = gives_err _ c.from_residual.result c.from_residual.ensures.1 (fails_round c.rounds.invariant c.rounds-test.ensures.tells c.in_err-next.ensures.gives)

pub rounds-preserved : goal.rounds-preserved
rounds-preserved c = one_more var_decl_text _ _ _ c.in_ok-push.ensures.items c.rounds.invariant c.rounds-test.ensures.tells c.in_ok-next.ensures.gives

pub returns : goal.returns
returns c = end_rounds c.rounds.invariant c.rounds-test.ensures.tells
