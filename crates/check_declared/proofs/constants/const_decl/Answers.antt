use Rattle.check_types.proofs.steps.Answering.{exit}
use Rattle.check_declared.proofs.Consts.{not_stood, no_value, is_declared}
use Rattle.check_declared.proofs.constants.const_decl.Goals as goal

pub returns-in_err-stand-clause-judged : goal.returns-in_err-stand-clause-judged
returns-in_err-stand-clause-judged c = λ m makes. exit _ c.from_residual.ensures.1 (not_stood c.args.round.now c.args.tree.now m (c.in_err-stand.ensures.judged m makes))

pub returns-in_err-value-clause-judged : goal.returns-in_err-value-clause-judged
returns-in_err-value-clause-judged c = λ m makes.
    exit _ c.from_residual-in_err-value.ensures.1 (no_value c.args.round.now c.args.tree.now m (c.in_ok-stand.ensures.judged m makes) (λ n k. c.in_err-value.ensures n k))

pub returns-clause-judged : goal.returns-clause-judged
returns-clause-judged c = λ m makes.
    is_declared c.args.round.now c.args.tree.now m c.in_ok-kept.kept c.declare.result (c.in_ok-stand.ensures.judged m makes) (λ n k. c.in_ok-value.ensures n k) c.in_ok-kept.ensures.means c.in_ok-kept.ensures.makes
    (λ n k. c.declare.ensures.judged n k)
