use Rattle.std.proofs.Common.{ap}
use Rattle.ob_judge.specs.Scopes.{place}
use Rattle.ob_judge.specs.Symbols.{add_operator, add_symbol}
use Rattle.ob_judge.specs.Parts.{joined as judged_operator}
use Rattle.check_types.proofs.steps.Answering.{as_judged}
use Rattle.check_expressions.proofs.steps.joined_terms.Goals as goal

pub returns-in-Plus : goal.returns-in-Plus
returns-in-Plus c = λ a b x y.
    let p = c.args.scope.now.source.now in
    as_judged (ap (λ o. judged_operator (add_operator o) (place p (add_symbol o)) a b) c.in-Plus.is) (c.joined.ensures a b x y)

pub returns-in-Minus : goal.returns-in-Minus
returns-in-Minus c = λ a b x y.
    let p = c.args.scope.now.source.now in
    as_judged (ap (λ o. judged_operator (add_operator o) (place p (add_symbol o)) a b) c.in-Minus.is) (c.joined-in-Minus.ensures a b x y)

pub returns-in-Or : goal.returns-in-Or
returns-in-Or c = λ a b x y.
    let p = c.args.scope.now.source.now in
    as_judged (ap (λ o. judged_operator (add_operator o) (place p (add_symbol o)) a b) c.in-Or.is) (c.joined-in-Or.ensures a b x y)
