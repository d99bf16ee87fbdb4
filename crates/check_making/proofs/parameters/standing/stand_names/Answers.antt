use Rattle.ob_judge.specs.Parameters.{next_names}
use Rattle.check_types.proofs.steps.Answering.{exit}
use Rattle.check_making.proofs.parameters.InLists.{stand_both, stand_broken}
use Rattle.check_making.proofs.parameters.standing.stand_names.Goals as goal

pub returns-in_err-stand-clause-judged : goal.returns-in_err-stand-clause-judged
returns-in_err-stand-clause-judged c = λ m makes. exit _ c.from_residual.ensures.1 (stand_broken c.args.round.now c.args.first _ m (c.in_err-stand.ensures.judged m makes))

pub returns-clause-judged : goal.returns-clause-judged
returns-clause-judged c = λ m makes.
    stand_both c.args.round.now c.args.first (next_names c.args.more.now) m c.stand_more.result (c.in_ok-stand.ensures.judged m makes) (λ n k. c.stand_more.ensures.judged n k)
