use Rattle.std.proofs.Common.{◌∙◌, sym, ap, arith, drop, ℕ}
use Rattle.ob_scan.specs.Steps.{close}
use Rattle.ob_scan.proofs.Places.{comment_opens, comment_closes, comment_ends, comment_goes_on}
use Rattle.ob_scan.proofs.blanks.comment_end.Goals as goal

pub bytes-preserved-then-has_two : goal.bytes-preserved-then-has_two
bytes-preserved-then-has_two c =
    let k = comment_opens c.args.bytes.now c.bytes.others c.bytes.i c.if-has_two.ensures in
    record { rest = k.0 ∙ c.bytes.invariant.rest; low = omega arith; high = k.1; few = omega arith }

pub returns-then-others-eq0 : goal.returns-then-others-eq0
returns-then-others-eq0 c =
    let k = comment_ends c.args.bytes.now c.bytes.i c.if-has_two-2.ensures in
    (sym c.bytes.invariant.rest ∙ (ap (λ (n : ℕ). close n (drop c.bytes.i c.args.bytes.now)) c.if-others-eq0.true ∙ k.0), omega arith, k.1)

pub bytes-preserved-then-has_two-2 : goal.bytes-preserved-then-has_two-2
bytes-preserved-then-has_two-2 c =
    let k = comment_closes c.args.bytes.now c.bytes.others c.bytes.i (omega arith) c.if-has_two-2.ensures in
    record { rest = k.0 ∙ c.bytes.invariant.rest; low = omega arith; high = k.1; few = omega arith }

pub bytes-preserved : goal.bytes-preserved
bytes-preserved c = record {
  rest = comment_goes_on c.args.bytes.now c.bytes.others c.bytes.i c.bytes-test.true c.if-has_two.ensures c.if-has_two-2.ensures ∙ c.bytes.invariant.rest;
  low = omega arith;
  high = omega arith;
  few = omega arith;
}
