use Rattle.std.proofs.Common.{sym, subst, arith}
use Rattle.check_types.proofs.steps.Answering.{exit}
use Rattle.check_making.specs.scopes.Building.{StandsFor}
use Rattle.check_modules.proofs.Ends.{body_numbered, none_numbered}
use Rattle.check_modules.proofs.bodies.number_body.Goals as goal

pub set_procedure-requires : goal.set_procedure-requires
set_procedure-requires c = record { there = (let n = c.in_ok-number.ensures.number in let m = c.in_ok-number.ensures.more in omega (arith, n, m)) }

pub returns-in_err-number-clause-judged : goal.returns-in_err-number-clause-judged
returns-in_err-number-clause-judged c = λ j stands m h.
    exit _ c.from_residual.ensures.1 (none_numbered c.args.round.now c.args.state.now c.new_procedure.new.self c.new_procedure.new.self _ j c.in_err-number.ensures.judged m h)

pub returns-clause-judged : goal.returns-clause-judged
returns-clause-judged c = λ j stands.
    body_numbered c.args.round.now c.args.state.now c.new_procedure.new.self c.set_procedure.new.self c.in_ok-number.number c.args.body j c.in_ok-number.ensures.judged
    (c.set_procedure.ensures.judged j (subst (λ z. StandsFor z.types.table c.args.body j) (sym c.in_ok-number.ensures.declaring) stands))
