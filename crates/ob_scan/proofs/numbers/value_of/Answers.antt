use Rattle.std.proofs.Common.{◌≡◌, ◌+◌, arith, ◌∙◌, ap, drop, get_or}
use Rattle.ob_scan.specs.Words.{is_hexadecimal, digit, value_from}
use Rattle.ob_scan.proofs.Turns.{all_at, value_step, value_grows}
use Rattle.ob_scan.proofs.numbers.value_of.Goals as goal

pub digit_of-requires : goal.digit_of-requires
digit_of-requires c = all_at is_hexadecimal c.args.digits.now c.loop-b.b-index c.requires.digits c.loop-b-test.true

pub returns-in-None : goal.returns-in-None
returns-in-None c =
    let e : c.from-digit.result ≡ digit (get_or c.args.digits.now c.loop-b.b-index 0) = c.from-digit.ensures ∙ c.digit_of.ensures.value in
    let g = value_grows c.args.base c.args.digits.now c.loop-b.b-index c.loop-b.value c.from-digit.result _ c.requires.base c.loop-b-test.true (all_at is_hexadecimal c.args.digits.now c.loop-b.b-index c.requires.digits c.loop-b-test.true) e c.loop-b.invariant.same in
    omega (arith, g, c.in-None.ensures)

pub loop-b-preserved : goal.loop-b-preserved
loop-b-preserved c =
    let e : c.from-digit.result ≡ digit (get_or c.args.digits.now c.loop-b.b-index 0) = c.from-digit.ensures ∙ c.digit_of.ensures.value in
    record {
      same = ap (λ n. value_from c.args.base n (drop (c.loop-b.b-index + 1) c.args.digits.now)) c.in-Some.ensures.0 ∙ value_step c.args.base c.args.digits.now c.loop-b.b-index c.loop-b.value c.from-digit.result _ c.loop-b-test.true (all_at is_hexadecimal c.args.digits.now c.loop-b.b-index c.requires.digits c.loop-b-test.true) e c.loop-b.invariant.same;
      small = c.in-Some.ensures.1;
    }
