use Rattle.std.proofs.Common.{◌∷◌, ◌++◌, [], ap, refl, take, get_or, ◌∙◌, arith}
use Rattle.check_making.proofs.headings.Signing.{take_next, take_past}
use Rattle.check_making.proofs.new_types.records.with_front.Goals as goal

pub loop-n-init : goal.loop-n-init
loop-n-init c = c.in_ok-push.ensures.items ∙ ap (λ xs. xs ++ c.args.first ∷ []) c.new-all.ensures.items

pub loop-n-preserved : goal.loop-n-preserved
loop-n-preserved c =
    let xs = c.args.rest.now in
    let i = c.loop-n.n-index in
    c.in_ok-push-2.ensures.items ∙ ap (λ ns. ns ++ get_or xs i 0 ∷ []) c.loop-n.invariant
    ∙ ap (λ ns. c.args.first ∷ ns) (take_next xs (take i xs) i 0 c.loop-n-test.true refl)

pub returns-clause-items : goal.returns-clause-items
returns-clause-items c = c.loop-n.invariant ∙ ap (λ ys. c.args.first ∷ ys) (take_past c.args.rest.now c.loop-n.n-index (let past = c.loop-n-test.false in omega (arith, past)))
