use Rattle.std.proofs.Common.{◌+◌, ◌||◌, sym, ap, ◌∙◌, drop}
use Rattle.std.proofs.lemmas.Bool.{eq-eqb}
use Rattle.ob_judge.specs.Shapes.{contains}
use Rattle.check_types.proofs.Rounds.{contains_more, eqb_false}
use Rattle.check_types.proofs.sameness.contains.Goals as goal

pub returns-then-n-number : goal.returns-then-n-number
returns-then-n-number c = sym (
    c.loop-number.invariant ∙ contains_more c.args.n c.args.numbers.now c.loop-number.number-index c.loop-number-test.true
    ∙ ap (λ b. b || contains c.args.n (drop (c.loop-number.number-index + 1) c.args.numbers.now)) (eq-eqb _ _ c.if-n-number.true))

pub loop-number-preserved : goal.loop-number-preserved
loop-number-preserved c =
    c.loop-number.invariant ∙ contains_more c.args.n c.args.numbers.now c.loop-number.number-index c.loop-number-test.true
    ∙ ap (λ b. b || contains c.args.n (drop (c.loop-number.number-index + 1) c.args.numbers.now)) (eqb_false _ _ c.if-n-number.false)
