use Rattle.std.proofs.Common.{sym, ap}
use Rattle.ob_syntax.specs.Plain.{plain_option, plain_consts, plain_each, plain_const_decl}
use Rattle.ob_judge.specs.Declarations.{each, const_part, consts_in}
use Rattle.check_types.proofs.steps.Answering.{exit, as_judged}
use Rattle.check_procedures.proofs.first_parts.constant_declarations.Goals as goal

pub returns-in_err-const_decls-in-Some-clause-judged :
    goal.returns-in_err-const_decls-in-Some-clause-judged
returns-in_err-const_decls-in-Some-clause-judged c = λ m makes.
    let p = c.args.round.now.source.now in
    exit _ c.from_residual.ensures.1
    (as_judged (ap (λ t. each (const_part p) (consts_in (plain_option plain_consts t)) m) c.in-Some.is)
    (as_judged (ap (λ xs. each (const_part p) (plain_each plain_const_decl xs) m) (sym c.deref.ensures.value)) (c.in_err-const_decls-in-Some.ensures.judged m makes)))
