use Rattle.std.proofs.Common.{ap}
use Rattle.ob_judge.specs.Scopes.{place}
use Rattle.ob_judge.specs.Symbols.{mul_operator, mul_symbol}
use Rattle.ob_judge.specs.Parts.{joined as judged_operator}
use Rattle.check_types.proofs.steps.Answering.{as_judged}
use Rattle.check_expressions.proofs.steps.joined_factors.Goals as goal

pub returns-in-Times : goal.returns-in-Times
returns-in-Times c = λ a b x y.
    let p = c.args.scope.now.source.now in
    as_judged (ap (λ o. judged_operator (mul_operator o) (place p (mul_symbol o)) a b) c.in-Times.is) (c.joined.ensures a b x y)

pub returns-in-Slash : goal.returns-in-Slash
returns-in-Slash c = λ a b x y.
    let p = c.args.scope.now.source.now in
    as_judged (ap (λ o. judged_operator (mul_operator o) (place p (mul_symbol o)) a b) c.in-Slash.is) (c.joined-in-Slash.ensures a b x y)

pub returns-in-Div : goal.returns-in-Div
returns-in-Div c = λ a b x y.
    let p = c.args.scope.now.source.now in
    as_judged (ap (λ o. judged_operator (mul_operator o) (place p (mul_symbol o)) a b) c.in-Div.is) (c.joined-in-Div.ensures a b x y)

pub returns-in-Mod : goal.returns-in-Mod
returns-in-Mod c = λ a b x y.
    let p = c.args.scope.now.source.now in
    as_judged (ap (λ o. judged_operator (mul_operator o) (place p (mul_symbol o)) a b) c.in-Mod.is) (c.joined-in-Mod.ensures a b x y)

pub returns-in-And : goal.returns-in-And
returns-in-And c = λ a b x y.
    let p = c.args.scope.now.source.now in
    as_judged (ap (λ o. judged_operator (mul_operator o) (place p (mul_symbol o)) a b) c.in-And.is) (c.joined-in-And.ensures a b x y)
