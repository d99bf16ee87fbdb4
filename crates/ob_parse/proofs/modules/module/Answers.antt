-- Each right side, put together from its parts.
use Rattle.parse_steps.proofs.Steps.{reads_part, reads_then, fails_part, fails_first, fails_then, gives_err}
use Rattle.ob_parse.proofs.modules.module.Goals as goal

pub returns-in_err-module_word : goal.returns-in_err-module_word
returns-in_err-module_word c = gives_err _ c.from_residual.result c.from_residual.ensures.1 (fails_part (fails_first c.in_err-module_word.ensures.gives))

pub returns-in_err-name : goal.returns-in_err-name
returns-in_err-name c = gives_err _ c.from_residual-in_err-name.result c.from_residual-in_err-name.ensures.1 (fails_part (fails_then c.in_ok-module_word.ensures.gives (fails_first c.in_err-name.ensures.gives)))

pub returns-in_err-semicolon : goal.returns-in_err-semicolon
returns-in_err-semicolon c = gives_err _ c.from_residual-in_err-semicolon.result c.from_residual-in_err-semicolon.ensures.1 (fails_part (fails_then c.in_ok-module_word.ensures.gives (fails_then c.in_ok-name.ensures.gives (fails_first c.in_err-semicolon.ensures.gives))))

pub returns-in_err-imports : goal.returns-in_err-imports
returns-in_err-imports c = gives_err _ c.from_residual-in_err-imports.result c.from_residual-in_err-imports.ensures.1 (fails_part (fails_then c.in_ok-module_word.ensures.gives (fails_then c.in_ok-name.ensures.gives (fails_then c.in_ok-semicolon.ensures.gives (fails_first c.in_err-imports.ensures)))))

pub returns-in_err-decls : goal.returns-in_err-decls
returns-in_err-decls c = gives_err _ c.from_residual-in_err-decls.result c.from_residual-in_err-decls.ensures.1 (fails_part (fails_then c.in_ok-module_word.ensures.gives (fails_then c.in_ok-name.ensures.gives (fails_then c.in_ok-semicolon.ensures.gives (fails_then c.in_ok-imports.ensures (fails_first c.in_err-decls.ensures))))))

pub returns-in_err-body : goal.returns-in_err-body
returns-in_err-body c = gives_err _ c.from_residual-in_err-body.result c.from_residual-in_err-body.ensures.1 (fails_part (fails_then c.in_ok-module_word.ensures.gives (fails_then c.in_ok-name.ensures.gives (fails_then c.in_ok-semicolon.ensures.gives (fails_then c.in_ok-imports.ensures (fails_then c.in_ok-decls.ensures (fails_first c.in_err-body.ensures)))))))

pub returns-in_err-end_word : goal.returns-in_err-end_word
returns-in_err-end_word c = gives_err _ c.from_residual-in_err-end_word.result c.from_residual-in_err-end_word.ensures.1 (fails_part (fails_then c.in_ok-module_word.ensures.gives (fails_then c.in_ok-name.ensures.gives (fails_then c.in_ok-semicolon.ensures.gives (fails_then c.in_ok-imports.ensures (fails_then c.in_ok-decls.ensures (fails_then c.in_ok-body.ensures (fails_first c.in_err-end_word.ensures.gives))))))))

pub returns-in_err-end_name : goal.returns-in_err-end_name
returns-in_err-end_name c = gives_err _ c.from_residual-in_err-end_name.result c.from_residual-in_err-end_name.ensures.1 (fails_part (fails_then c.in_ok-module_word.ensures.gives (fails_then c.in_ok-name.ensures.gives (fails_then c.in_ok-semicolon.ensures.gives (fails_then c.in_ok-imports.ensures (fails_then c.in_ok-decls.ensures (fails_then c.in_ok-body.ensures (fails_then c.in_ok-end_word.ensures.gives (fails_first c.in_err-end_name.ensures.gives)))))))))

pub returns-in_err-period : goal.returns-in_err-period
returns-in_err-period c = gives_err _ c.from_residual-in_err-period.result c.from_residual-in_err-period.ensures.1 (fails_part (fails_then c.in_ok-module_word.ensures.gives (fails_then c.in_ok-name.ensures.gives (fails_then c.in_ok-semicolon.ensures.gives (fails_then c.in_ok-imports.ensures (fails_then c.in_ok-decls.ensures (fails_then c.in_ok-body.ensures (fails_then c.in_ok-end_word.ensures.gives (fails_then c.in_ok-end_name.ensures.gives c.in_err-period.ensures.gives)))))))))

pub returns : goal.returns
returns c = reads_part (reads_then c.in_ok-module_word.ensures.gives (reads_then c.in_ok-name.ensures.gives (reads_then c.in_ok-semicolon.ensures.gives (reads_then c.in_ok-imports.ensures (reads_then c.in_ok-decls.ensures (reads_then c.in_ok-body.ensures (reads_then c.in_ok-end_word.ensures.gives (reads_then c.in_ok-end_name.ensures.gives c.in_ok-period.ensures.gives))))))))
