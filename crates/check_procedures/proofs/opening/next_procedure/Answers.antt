use Rattle.std.proofs.Common.{[], ◌∷◌, Ok}
use Rattle.ob_judge.specs.Parameters.{stand}
use Rattle.check_types.proofs.steps.Answering.{exit, goes_on, stop}
use Rattle.judged_modules.proofs.steps.Frame.{h_stand}
use Rattle.check_making.proofs.scopes.Together.{built_at}
use Rattle.check_procedures.proofs.opening.next_procedure.Goals as goal

pub returns-in_err-stand-clause-judged : goal.returns-in_err-stand-clause-judged
returns-in_err-stand-clause-judged c = λ m represents. exit _ c.from_residual.ensures.1 (stop _ _ (c.in_err-stand.ensures.judged m represents.makes))

pub returns-in_err-number-clause-judged : goal.returns-in_err-number-clause-judged
returns-in_err-number-clause-judged c = λ m represents.
    let p = c.args.round.now.source.now in
    exit _ c.from_residual-in_err-number.ensures.1
    (goes_on _ _ (built_at c.args.round.now c.args.state.now m represents c.stand.new.self (stand p (c.args.name ∷ []) m) (h_stand p (c.args.name ∷ []) m) c.in_ok-stand.ensures.types (Ok tt) (c.in_ok-stand.ensures.judged m represents.makes))
    (λ a built. c.in_err-number.ensures.judged a.1 built.represents))

pub returns-clause-judged : goal.returns-clause-judged
returns-clause-judged c = λ m represents.
    let p = c.args.round.now.source.now in
    goes_on _ _ (built_at c.args.round.now c.args.state.now m represents c.stand.new.self (stand p (c.args.name ∷ []) m) (h_stand p (c.args.name ∷ []) m) c.in_ok-stand.ensures.types (Ok tt) (c.in_ok-stand.ensures.judged m represents.makes))
    (λ a built. c.in_ok-number.ensures.judged a.1 built.represents)
