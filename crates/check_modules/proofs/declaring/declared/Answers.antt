use Rattle.std.proofs.Common.{rules, ◌≡◌, subst}
use Rattle.ob_syntax.specs.Plain.{plain_module, plain_decls}
use Rattle.ob_judge.specs.Declarations.{decls_part}
use Rattle.check_procedures.specs.UnderWay.{BuildsUpright}
use Rattle.check_types.proofs.steps.Answering.{exit}
use Rattle.check_modules.proofs.Declared.{not_imported, imported_under_way, declared_on, legal_if}
use Rattle.check_modules.proofs.declaring.declared.Goals as goal

pub returns-in_err-imports-clause-judged : goal.returns-in_err-imports-clause-judged
returns-in_err-imports-clause-judged c = λ k m h up.
    exit _ c.from_residual.ensures.1 (not_imported c.args.round.now (plain_module c.args.tree.now) c.args.state.now c.imports.new.state c.in_err-imports.ensures.types c.in_err-imports.ensures.judged k m h up)

pub declarations-requires-clause-under_way : goal.declarations-requires-clause-under_way
declarations-requires-clause-under_way c =
    imported_under_way c.args.round.now (plain_module c.args.tree.now) c.args.state.now c.imports.new.state c.in_ok-imports.ensures.types c.in_ok-imports.ensures.judged c.requires.under_way c.in_ok-imports.ensures.settled

pub returns-clause-judged : goal.returns-clause-judged
returns-clause-judged c =
    let r = c.args.round.now in
    let taken : c.replace-decls.result ≡ c.args.tree.now.decls = search rules in
    declared_on r (plain_module c.args.tree.now) c.args.state.now c.imports.new.state c.in_ok-imports.ensures.types c.in_ok-imports.ensures.judged
    (subst (λ d. BuildsUpright r (record { declaring = c.imports.new.state; procedures = c.args.state.now.procedures }) c.declarations.new.state (decls_part r.source.now (plain_decls d)) c.declarations.result) taken c.declarations.ensures.judged)

pub returns-clause-legal : goal.returns-clause-legal
returns-clause-legal c = legal_if c.args.round.now (plain_module c.args.tree.now) c.args.state.now c.imports.new.state c.in_ok-imports.ensures.types c.in_ok-imports.ensures.judged c.declarations.new.state c.declarations.result c.requires.under_way c.declarations.ensures.legal
