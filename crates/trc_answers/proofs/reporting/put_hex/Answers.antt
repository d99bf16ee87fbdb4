use Rattle.std.proofs.Common.{length, arith}
use Rattle.trc_answers.proofs.Hex.{round, done}
use Rattle.trc_answers.proofs.reporting.put_hex.Goals as goal

pub loop-at-preserved : goal.loop-at-preserved
loop-at-preserved c =
    let test = c.loop-at-test.true in
    round (length c.args.digits.now) c.args.number c.loop-at.at c.loop-at.left c.loop-at.digits c.hex_digit.result (omega (arith, test)) c.loop-at.invariant c.hex_digit.ensures

pub returns : goal.returns
returns c =
    let test = c.loop-at-test.false in
    done (length c.args.digits.now) c.args.number c.loop-at.at c.loop-at.left c.loop-at.digits c.loop-at.invariant (λ h. absurd (omega (arith, test, h)))
