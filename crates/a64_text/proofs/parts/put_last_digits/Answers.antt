use Rattle.std.proofs.Common.{◌-◌, ◌∙◌, ap, ◌++◌}
use Rattle.a64_text.specs.Operands.{last_digits}
use Rattle.a64_text.proofs.Digits.{next_digit}
use Rattle.a64_text.proofs.parts.put_last_digits.Goals as goal

pub loop-left-preserved : goal.loop-left-preserved
loop-left-preserved c =
    let left = c.loop-left.left in
    ap (λ items. items ++ last_digits (left - 1) c.args.number) c.in_ok-push.ensures.items
    ∙ next_digit c.loop-left.text.items c.digit.result left c.args.number c.loop-left-test.true c.digit.ensures ∙ c.loop-left.invariant
