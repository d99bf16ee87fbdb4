use Rattle.std.proofs.Common.{sym, ap}
use Rattle.ob_syntax.specs.Plain.{plain_option, plain_imports}
use Rattle.check_types.proofs.steps.Answering.{exit, stop, goes_on, as_judged}
use Rattle.check_modules.specs.importing.Importing.{imports_part, more_imports}
use Rattle.check_modules.proofs.importing.importing.imports.Goals as goal

pub returns-in_err-import_one-in-Some-clause-judged : goal.returns-in_err-import_one-in-Some-clause-judged
returns-in_err-import_one-in-Some-clause-judged c = λ m makes.
    exit _ c.from_residual.ensures.1 (as_judged (ap (λ t. imports_part c.args.round.now.source.now (plain_option plain_imports t) m) c.in-Some.is)
    (stop _ _ (c.in_err-import_one-in-Some.ensures.judged m makes)))

pub returns-in_ok-import_one-in-Some-clause-judged : goal.returns-in_ok-import_one-in-Some-clause-judged
returns-in_ok-import_one-in-Some-clause-judged c = λ m makes.
    as_judged (ap (λ t. imports_part c.args.round.now.source.now (plain_option plain_imports t) m) c.in-Some.is)
    (goes_on _ _ (c.in_ok-import_one-in-Some.ensures.judged m makes) (λ a h.
    as_judged (ap (λ xs. more_imports c.args.round.now.source.now xs a.1) (sym c.deref.ensures.value)) (c.import_more.ensures.judged a.1 h.makes)))
