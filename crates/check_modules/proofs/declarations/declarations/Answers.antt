use Rattle.check_types.proofs.steps.Answering.{exit}
use Rattle.check_making.proofs.Growing.{grows_on}
use Rattle.check_procedures.proofs.Whole.{not_begun, whole, legal_behind}
use Rattle.check_modules.proofs.declarations.declarations.Goals as goal

pub returns-in_err-before_procedures-clause-judged : goal.returns-in_err-before_procedures-clause-judged
returns-in_err-before_procedures-clause-judged c = λ k m represents up.
    exit _ c.from_residual.ensures.1 (not_begun c.args.round.now c.args.tree c.in_err-before_procedures.ensures.judged k m represents up)

pub returns-in_err-procedures-clause-judged : goal.returns-in_err-procedures-clause-judged
returns-in_err-procedures-clause-judged c = λ k m represents up.
    exit _ c.from_residual-in_err-procedures.ensures.1
    (whole c.args.round.now c.args.tree c.args.state.now c.before_procedures.new.state c.in_ok-before_procedures.ensures.judged c.in_err-procedures.ensures.judged k m represents up)

pub returns-clause-judged : goal.returns-clause-judged
returns-clause-judged c = λ k m represents up.
    whole c.args.round.now c.args.tree c.args.state.now c.before_procedures.new.state c.in_ok-before_procedures.ensures.judged c.in_ok-procedures.ensures.judged k m represents up

pub returns-clause-later : goal.returns-clause-later
returns-clause-later c = record {
  grows = grows_on c.args.state.now.declaring.types.table c.before_procedures.new.state.declaring.types.table c.procedures.new.state.declaring.types.table c.in_ok-before_procedures.ensures.later.grows c.in_ok-procedures.ensures.later.grows;
  few = c.in_ok-procedures.ensures.later.few;
}

pub returns-clause-legal : goal.returns-clause-legal
returns-clause-legal c = λ k m represents up legal.
    legal_behind c.args.round.now c.args.tree c.args.state.now c.before_procedures.new.state c.in_ok-before_procedures.ensures.judged c.procedures.new.state c.in_ok-procedures.ensures.legal k m represents up
    (c.in_ok-before_procedures.ensures.legal k m represents up legal)
