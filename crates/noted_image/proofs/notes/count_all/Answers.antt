use Rattle.std.proofs.Common.{◌≡◌, ◌+◌, length, ap, arith, refl}
use Rattle.noted_image.proofs.Written.{none_left, count_more}
use Rattle.noted_image.proofs.notes.count_all.Goals as goal

pub returns : goal.returns
returns c =
    let none = ap length (none_left c.args.outs.now c.loop-own.own-index c.loop-own-test.false) in
    let sum = c.loop-own.invariant.sum in
    omega (arith, none, sum)
