-- Each right side, put together from its parts.
use Rattle.ob_syntax.specs.DeclarationText.{procedure_decl_text}
use Rattle.ob_syntax.proofs.DeclarationTexts.{decls_is, procedure_decl_is, procedure_is}
use Rattle.parse_steps.proofs.Steps.{as_text, reads_part, reads_then, fails_part, fails_first, fails_then, fails_inside, reads_inside, one_more, end_rounds, fails_round, gives_err}
use Rattle.ob_parse.proofs.declarations.+declarations.Goals as goal

pub decls-returns-in_err-consts : goal.decls-returns-in_err-consts
decls-returns-in_err-consts t c = gives_err _ c.from_residual.result c.from_residual.ensures.1 (fails_part (fails_first c.in_err-consts.ensures))

pub decls-returns-in_err-types : goal.decls-returns-in_err-types
decls-returns-in_err-types t c = gives_err _ c.from_residual-in_err-types.result c.from_residual-in_err-types.ensures.1 (fails_part (fails_then c.in_ok-consts.ensures (fails_first c.in_err-types.ensures)))

pub decls-returns-in_err-vars : goal.decls-returns-in_err-vars
decls-returns-in_err-vars t c = gives_err _ c.from_residual-in_err-vars.result c.from_residual-in_err-vars.ensures.1 (fails_part (fails_then c.in_ok-consts.ensures (fails_then c.in_ok-types.ensures (fails_first c.in_err-vars.ensures))))

pub decls-returns-in_err-procedures : goal.decls-returns-in_err-procedures
decls-returns-in_err-procedures t c = gives_err _ c.from_residual-in_err-procedures.result c.from_residual-in_err-procedures.ensures.1 (fails_part (fails_then c.in_ok-consts.ensures (fails_then c.in_ok-types.ensures (fails_then c.in_ok-vars.ensures c.in_err-procedures.ensures))))

pub decls-returns : goal.decls-returns
decls-returns t c = as_text (decls_is _ _ _ _) (reads_part (reads_then c.in_ok-consts.ensures (reads_then c.in_ok-types.ensures (reads_then c.in_ok-vars.ensures c.in_ok-procedures.ensures))))

pub procedures-returns-in_err-procedure : goal.procedures-returns-in_err-procedure
procedures-returns-in_err-procedure t c = gives_err _ c.from_residual.result c.from_residual.ensures.1 (fails_round c.rounds.invariant c.rounds-test.ensures.tells (fails_first c.in_err-procedure.ensures.gives))

pub procedures-returns-in_err-semicolon : goal.procedures-returns-in_err-semicolon
procedures-returns-in_err-semicolon t c = gives_err _ c.from_residual-in_err-semicolon.result c.from_residual-in_err-semicolon.ensures.1 (fails_round c.rounds.invariant c.rounds-test.ensures.tells (fails_then c.in_ok-procedure.ensures.gives c.in_err-semicolon.ensures.gives))

pub procedures-rounds-preserved : goal.procedures-rounds-preserved
procedures-rounds-preserved t c = one_more procedure_decl_text _ _ _ c.in_ok-push.ensures.items c.rounds.invariant c.rounds-test.ensures.tells (as_text (procedure_decl_is _ _) (reads_then c.in_ok-procedure.ensures.gives c.in_ok-semicolon.ensures.gives))

pub procedures-returns : goal.procedures-returns
procedures-returns t c = end_rounds c.rounds.invariant c.rounds-test.ensures.tells

pub procedure-returns-in_err-procedure_word-clause-gives : goal.procedure-returns-in_err-procedure_word-clause-gives
procedure-returns-in_err-procedure_word-clause-gives t c = gives_err _ c.from_residual.result c.from_residual.ensures.1 (fails_part (c.in_err-procedure_word.ensures _))

pub procedure-returns-in_err-name-clause-gives : goal.procedure-returns-in_err-name-clause-gives
procedure-returns-in_err-name-clause-gives t c = gives_err _ c.from_residual-in_err-name.result c.from_residual-in_err-name.ensures.1 (fails_part (fails_inside c.in_ok-procedure_word.ensures (fails_first c.in_err-name.ensures.gives)))

pub procedure-returns-in_err-formals-clause-gives : goal.procedure-returns-in_err-formals-clause-gives
procedure-returns-in_err-formals-clause-gives t c = gives_err _ c.from_residual-in_err-formals.result c.from_residual-in_err-formals.ensures.1 (fails_part (fails_inside c.in_ok-procedure_word.ensures (fails_then c.in_ok-name.ensures.gives (fails_first c.in_err-formals.ensures))))

pub procedure-returns-in_err-semicolon-clause-gives : goal.procedure-returns-in_err-semicolon-clause-gives
procedure-returns-in_err-semicolon-clause-gives t c = gives_err _ c.from_residual-in_err-semicolon.result c.from_residual-in_err-semicolon.ensures.1 (fails_part (fails_inside c.in_ok-procedure_word.ensures (fails_then c.in_ok-name.ensures.gives (fails_then c.in_ok-formals.ensures (fails_first c.in_err-semicolon.ensures.gives)))))

pub procedure-returns-in_err-decls-clause-gives : goal.procedure-returns-in_err-decls-clause-gives
procedure-returns-in_err-decls-clause-gives t c = gives_err _ c.from_residual-in_err-decls.result c.from_residual-in_err-decls.ensures.1 (fails_part (fails_inside c.in_ok-procedure_word.ensures (fails_then c.in_ok-name.ensures.gives (fails_then c.in_ok-formals.ensures (fails_then c.in_ok-semicolon.ensures.gives (fails_first c.in_err-decls.ensures))))))

pub procedure-returns-in_err-body-clause-gives : goal.procedure-returns-in_err-body-clause-gives
procedure-returns-in_err-body-clause-gives t c = gives_err _ c.from_residual-in_err-body.result c.from_residual-in_err-body.ensures.1 (fails_part (fails_inside c.in_ok-procedure_word.ensures (fails_then c.in_ok-name.ensures.gives (fails_then c.in_ok-formals.ensures (fails_then c.in_ok-semicolon.ensures.gives (fails_then c.in_ok-decls.ensures (fails_first c.in_err-body.ensures)))))))

pub procedure-returns-in_err-returned-clause-gives : goal.procedure-returns-in_err-returned-clause-gives
procedure-returns-in_err-returned-clause-gives t c = gives_err _ c.from_residual-in_err-returned.result c.from_residual-in_err-returned.ensures.1 (fails_part (fails_inside c.in_ok-procedure_word.ensures (fails_then c.in_ok-name.ensures.gives (fails_then c.in_ok-formals.ensures (fails_then c.in_ok-semicolon.ensures.gives (fails_then c.in_ok-decls.ensures (fails_then c.in_ok-body.ensures (fails_first c.in_err-returned.ensures))))))))

pub procedure-returns-in_err-end_word-clause-gives : goal.procedure-returns-in_err-end_word-clause-gives
procedure-returns-in_err-end_word-clause-gives t c = gives_err _ c.from_residual-in_err-end_word.result c.from_residual-in_err-end_word.ensures.1 (fails_part (fails_inside c.in_ok-procedure_word.ensures (fails_then c.in_ok-name.ensures.gives (fails_then c.in_ok-formals.ensures (fails_then c.in_ok-semicolon.ensures.gives (fails_then c.in_ok-decls.ensures (fails_then c.in_ok-body.ensures (fails_then c.in_ok-returned.ensures (fails_first c.in_err-end_word.ensures.gives)))))))))

pub procedure-returns-in_err-end_name-clause-gives : goal.procedure-returns-in_err-end_name-clause-gives
procedure-returns-in_err-end_name-clause-gives t c = gives_err _ c.from_residual-in_err-end_name.result c.from_residual-in_err-end_name.ensures.1 (fails_part (fails_inside c.in_ok-procedure_word.ensures (fails_then c.in_ok-name.ensures.gives (fails_then c.in_ok-formals.ensures (fails_then c.in_ok-semicolon.ensures.gives (fails_then c.in_ok-decls.ensures (fails_then c.in_ok-body.ensures (fails_then c.in_ok-returned.ensures (fails_then c.in_ok-end_word.ensures.gives c.in_err-end_name.ensures.gives)))))))))

pub procedure-returns-clause-gives : goal.procedure-returns-clause-gives
procedure-returns-clause-gives t c = as_text (procedure_is _ _ _ _ _ _ _ _ _) (reads_part (reads_inside _ c.in_ok-procedure_word.ensures (reads_then c.in_ok-name.ensures.gives (reads_then c.in_ok-formals.ensures (reads_then c.in_ok-semicolon.ensures.gives (reads_then c.in_ok-decls.ensures (reads_then c.in_ok-body.ensures (reads_then c.in_ok-returned.ensures (reads_then c.in_ok-end_word.ensures.gives c.in_ok-end_name.ensures.gives))))))) c.leave.ensures))
