use Rattle.std.proofs.Common.{length}
use Rattle.ob_syntax.specs.Plain.{plain_option, plain_formals}
use Rattle.ob_judge.specs.Declarations.{heading}
use Rattle.check_types.proofs.steps.Answering.{exit}
use Rattle.check_making.proofs.parameters.Answering.{refused, no_memory}
use Rattle.check_making.proofs.scopes.Together.{built_on}
use Rattle.check_procedures.proofs.Steadiness.{heading_steady}
use Rattle.check_procedures.proofs.opening.procedure_heading.Goals as goal

pub returns-in_err-all-clause-judged : goal.returns-in_err-all-clause-judged
returns-in_err-all-clause-judged c = λ m h. exit _ c.from_residual.ensures.1 (refused (c.in_err-all.ensures.judged m h.makes))

pub returns-in_err-count_signatures-clause-judged : goal.returns-in_err-count_signatures-clause-judged
returns-in_err-count_signatures-clause-judged c = λ m h. exit _ c.from_residual-in_err-count_signatures.ensures.1 (no_memory _ c.in_err-count_signatures.ensures.memory)

pub returns-clause-judged : goal.returns-clause-judged
returns-clause-judged c = λ m h.
    let p = c.args.round.now.source.now in
    let formals = plain_option plain_formals c.args.formals.now in
    built_on c.args.round.now c.args.state.now m h c.heading.new.state (heading p c.args.number c.args.name.now formals c.args.is_local m) (heading_steady p c.args.number c.args.name.now formals c.args.is_local m)
    (record { grows = c.in_ok-all.ensures.grows; few = c.in_ok-count_signatures.ensures.few }) _ (c.in_ok-all.ensures.judged m h.makes)

pub returns-clause-legal : goal.returns-clause-legal
returns-clause-legal c = λ k m h up legal. c.in_ok-all.ensures.legal (length k.procedures) m h.makes up.tidy legal
